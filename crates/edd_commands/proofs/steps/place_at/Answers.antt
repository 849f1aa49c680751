use Rattle.std.proofs.Common.{arith}
use Rattle.edd_commands.proofs.InForce.{in_force_at}
use Rattle.edd_commands.proofs.steps.place_at.Goals as goal

pub returns : goal.returns
returns c =
    in_force_at c.args.steps.now c.loop-high.low c.loop-high.high c.args.round c.requires (omega arith) (omega arith) c.loop-high.invariant.begun c.loop-high.invariant.later
