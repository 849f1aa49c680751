use Rattle.std.proofs.Common.{◌≡◌, take}
use Rattle.std.specs.List.{filter_map}
use Rattle.blk_trace.specs.Issues.{issues_of}
use Rattle.blk_report.specs.Inside.Services.{served_by}
use Rattle.blk_report.proofs.serving.served.Given as goal

abbrev pub invariant-loop-issue : goal.invariant-loop-issue
invariant-loop-issue g l = l.services.items ≡ filter_map (served_by l.trace.setup l.trace.events) (take l.issue-index (issues_of l.trace.events))
