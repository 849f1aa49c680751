use Rattle.std.proofs.Common.{◌≡◌}
use Rattle.blk_load.proofs.submitting.submit.Given as goal

abbrev pub invariant-loop : goal.invariant-loop
invariant-loop g l = (l.seat.number ≡ l.fn.seat.number) × (l.plug.limits ≡ l.fn.site.limits)
