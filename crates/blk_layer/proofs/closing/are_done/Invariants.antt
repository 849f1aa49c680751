use Rattle.std.proofs.Common.{◌++◌, take, IsPermutation}
use Rattle.std.specs.List.{filter_map}
use Rattle.blk_trace.specs.Issues.{issues_of}
use Rattle.blk_layer.specs.Closing.{command_done}
use Rattle.blk_layer.specs.Inside.Closing.{all_left}
use Rattle.blk_layer.proofs.closing.are_done.Given as goal

abbrev pub invariant-loop-issue : goal.invariant-loop-issue
invariant-loop-issue g l = IsPermutation (all_left l.initial.accounts.items) (filter_map (command_done l.fn.trace.setup l.fn.trace.events) (take l.issue-index (issues_of l.fn.trace.events)) ++ all_left l.accounts.items)
