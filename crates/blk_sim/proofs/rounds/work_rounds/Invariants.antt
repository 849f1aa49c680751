use Rattle.blk_sim.specs.Inside.Working.{WorkInTurn}
use Rattle.blk_sim.proofs.rounds.work_rounds.Given as goal

abbrev pub invariant-loop : goal.invariant-loop
invariant-loop g l = WorkInTurn g.S.Scheduler.policy l.counter l.initial.core l.core
