use Rattle.std.proofs.Common.{◌≡◌}
use Rattle.blk_layer_tests.proofs.calls.plugged.Given as goal

abbrev pub invariant-loop-bio : goal.invariant-loop-bio
invariant-loop-bio g l = l.plug.limits ≡ l.fn.limits
