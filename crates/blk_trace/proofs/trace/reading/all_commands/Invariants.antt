use Rattle.std.proofs.Common.{◌≡◌, take}
use Rattle.std.specs.List.{filter_map}
use Rattle.blk_trace.specs.Issues.{issues_of}
use Rattle.blk_trace.specs.Inside.Issues.{command_in}
use Rattle.blk_trace.proofs.trace.reading.all_commands.Given as goal

abbrev pub invariant-loop-issue : goal.invariant-loop-issue
invariant-loop-issue g l = l.commands.items ≡ filter_map (command_in l.trace.setup l.trace.events) (take l.issue-index (issues_of l.trace.events))
