use Rattle.std.proofs.Common.{◌≡◌}
use Rattle.blk_layer_tests.proofs.listed.fills.Given as goal

abbrev pub invariant-loop-place : goal.invariant-loop-place
invariant-loop-place g l = (l.submitter.number ≡ l.fn.submitter.number) × (l.plug.limits ≡ l.fn.plug.limits)
