use Rattle.std.proofs.Common.{◌≡◌, ◌≤◌, ◌*◌, length, take}
use Rattle.std.specs.List.{flat_map}
use Rattle.blk_bio.specs.declared.limits.TheConstants.{MAX_SEGMENTS}
use Rattle.blk_report.specs.Overdue.{is_overdue, bios_under}
use Rattle.blk_report.proofs.outstaying.count_overdue.Given as goal

-- the bios of the events so far, of which each has few
abbrev pub invariant-loop-event : goal.invariant-loop-event
invariant-loop-event g l = record {
  number : l.bios ≡ length (flat_map (bios_under (is_overdue l.trace.setup l.trace.events)) (take l.event-index l.trace.events));
  few : l.bios ≤ l.event-index * MAX_SEGMENTS;
}
