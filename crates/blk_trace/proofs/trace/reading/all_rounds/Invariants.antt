use Rattle.std.proofs.Common.{◌≡◌, take}
use Rattle.std.specs.List.{filter_map}
use Rattle.blk_trace.specs.Issues.{issues_of}
use Rattle.blk_trace.specs.Inside.Issues.{round_in}
use Rattle.blk_trace.proofs.trace.reading.all_rounds.Given as goal

abbrev pub invariant-loop-issue : goal.invariant-loop-issue
invariant-loop-issue g l = l.rounds.items ≡ filter_map round_in (take l.issue-index (issues_of l.trace.events))
