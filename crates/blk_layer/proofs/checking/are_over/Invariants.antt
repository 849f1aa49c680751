use Rattle.std.proofs.Common.{◌≡◌, [], take}
use Rattle.blk_layer.specs.Inside.Closing.{all_left}
use Rattle.blk_layer.proofs.checking.are_over.Given as goal

abbrev pub invariant-loop-account : goal.invariant-loop-account
invariant-loop-account g l = all_left (take l.account-index l.accounts) ≡ []
