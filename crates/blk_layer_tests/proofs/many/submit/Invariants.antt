use Rattle.std.proofs.Common.{◌≡◌}
use Rattle.blk_layer_tests.proofs.many.submit.Given as goal

abbrev pub invariant-loop : goal.invariant-loop
invariant-loop g l = (l.submitter.number ≡ l.fn.submitter.number) × (l.plug.limits ≡ l.fn.limits)
