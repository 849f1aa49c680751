use Rattle.blk_sim.specs.Rounds.{IssueInTurn}
use Rattle.blk_sim.proofs.rounds.issue_all.Given as goal

abbrev pub invariant-loop-tag : goal.invariant-loop-tag
invariant-loop-tag g l = IssueInTurn g.S.Scheduler.policy l.tag l.initial.core l.core
