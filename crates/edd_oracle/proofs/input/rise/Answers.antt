use Rattle.std.proofs.Common.{arith}
use Rattle.edd_commands.specs.declared.Command.{Command}
use Rattle.edd_oracle.proofs.Ids.{risen_next}
use Rattle.edd_oracle.proofs.input.rise.Goals as goal

abbrev none : Command
none = record { id = 0; release = 0; due = 0 }

pub loop-i-preserved : goal.loop-i-preserved
loop-i-preserved c = risen_next c.args.commands.now c.loop-i.i none (omega (arith, c.loop-i.auto.i)) c.loop-i-test.true c.if-commands-i.false c.loop-i.invariant
