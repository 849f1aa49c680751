use Rattle.std.proofs.Common.{◌≡◌}
use Rattle.blk_load.proofs.submitting.fill.Given as goal

abbrev pub invariant-loop-serial : goal.invariant-loop-serial
invariant-loop-serial l = l.plug.limits ≡ l.fn.plug.limits
