use Rattle.blk_sim.proofs.Where.{one_more}
use Rattle.blk_sim.proofs.laws.one_more_step.Goals as goal

pub returns : goal.returns
returns c = one_more
