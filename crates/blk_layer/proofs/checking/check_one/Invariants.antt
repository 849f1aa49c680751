use Rattle.std.proofs.Common.{◌≡◌}
use Rattle.blk_layer.proofs.checking.check_one.Given as goal

abbrev pub invariant-loop : goal.invariant-loop
invariant-loop g l = l.accounts ≡ l.initial.accounts
