use Rattle.std.proofs.Common.{arith, sym}
use Rattle.std.proofs.lemmas.List.{take_all}
use Rattle.std.proofs.lemmas.List.Elements.{All-more}
use Rattle.blk_schedulers.specs.Made.{IsMade}
use Rattle.blk_schedulers.proofs.Unmade.{no_sched}
use Rattle.blk_runs.proofs.Turns.{first_unmade}
use Rattle.blk_runs.proofs.tracing.unmade.Goals as goal

pub returns-in-Some-clause-unmade : goal.returns-in-Some-clause-unmade
returns-in-Some-clause-unmade c = first_unmade c.args.scheds.now c.loop-i.i no_sched c.in-Some.fault c.loop-i-test.true c.loop-i.invariant.made (sym c.in-Some.ensures)

pub loop-i-preserved : goal.loop-i-preserved
loop-i-preserved c = record { made = All-more IsMade c.args.scheds.now c.loop-i.i no_sched c.loop-i-test.true c.loop-i.invariant.made (sym c.in-None.ensures) }

pub returns-clause-made : goal.returns-clause-made
returns-clause-made c = rw (take_all c.loop-i.i c.args.scheds.now (omega arith)) at c.loop-i.invariant.made
