use Rattle.blk_sim.proofs.Where.{is_flushed_and_moved}
use Rattle.blk_sim.proofs.laws.released_by_flush_and_move.Goals as goal

pub returns : goal.returns
returns c = is_flushed_and_moved
