use Rattle.std.proofs.Common.{arith}
use Rattle.edd_check.proofs.Covers.{carried_in_most}
use Rattle.edd_check.specs.OnTime.{carried_in}
use Rattle.edd_check.proofs.on_time.carried_in.Goals as goal

pub returns-clause-most : goal.returns-clause-most
unfolding carried_in
returns-clause-most g c = omega (arith, c.sum.ensures.value, carried_in_most c.args.capacity.now c.args.window c.sum.ensures.steps)
