use Rattle.std.proofs.Common.{◌≡◌, ◌≤◌, length, map, drop}
use Rattle.std.specs.Prelude.{reverse}
use Rattle.blk_trace.specs.Issues.{issues_of}
use Rattle.blk_report.specs.Services.{service_of}
use Rattle.blk_picture.proofs.boxes.boxes.Given as goal

-- the boxes of the Issues from the place on
abbrev pub invariant-loop-left : goal.invariant-loop-left
invariant-loop-left l = record {
  within : l.left ≤ length (issues_of l.trace.events);
  boxes_are : l.boxes.items ≡ map (service_of l.trace.setup l.trace.events) (reverse (drop l.left (issues_of l.trace.events)));
}

abbrev pub decreases-loop-left : goal.decreases-loop-left
decreases-loop-left l = l.left
