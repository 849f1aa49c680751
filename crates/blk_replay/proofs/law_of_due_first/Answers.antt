use Rattle.blk_replay.proofs.Decided.{replays_best}
use Rattle.blk_replay.proofs.law_of_due_first.Goals as goal

pub returns : goal.returns
returns g c = replays_best c.law_of_ties.ensures.least c.law_of_ties.ensures.most g.S.Scheduler.policy
