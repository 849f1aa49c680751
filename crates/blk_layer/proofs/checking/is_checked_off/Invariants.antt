use Rattle.std.proofs.Common.{◌++◌, take, IsPermutation}
use Rattle.blk_layer.specs.Inside.Closing.{all_left}
use Rattle.blk_layer.proofs.checking.is_checked_off.Given as goal

abbrev pub invariant-loop-element : goal.invariant-loop-element
invariant-loop-element g l = IsPermutation (all_left l.initial.accounts.items) (take l.element-index l.list ++ all_left l.accounts.items)
