use Rattle.std.proofs.Common.{◌≡◌}
use Rattle.blk_sim.specs.Rounds.{GiveNothing}
use Rattle.blk_sim.proofs.rounds.issue_tag.Given as goal

abbrev pub invariant-loop-k : goal.invariant-loop-k
invariant-loop-k g l = record {
  same : l.core ≡ l.initial.core;
  nothing : GiveNothing g.S.Scheduler.policy l.tag l.k l.initial.core;
}
