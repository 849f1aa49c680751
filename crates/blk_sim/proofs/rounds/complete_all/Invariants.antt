use Rattle.blk_sim.specs.Rounds.{CompleteInTurn}
use Rattle.blk_sim.proofs.rounds.complete_all.Given as goal

abbrev pub invariant-loop-tag : goal.invariant-loop-tag
invariant-loop-tag g l = CompleteInTurn g.S.Scheduler.policy l.tag l.initial.core l.core
