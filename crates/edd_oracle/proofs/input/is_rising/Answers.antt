use Rattle.std.proofs.Common.{arith}
use Rattle.edd_oracle.proofs.Ids.{rising_next}
use Rattle.edd_oracle.proofs.input.is_rising.Goals as goal

pub loop-i-preserved : goal.loop-i-preserved
loop-i-preserved c = rising_next c.args.ids.now c.loop-i.i (omega (arith, c.loop-i.auto.i)) c.if-ids-i.false c.loop-i.invariant
