use Rattle.blk_index.proofs.Lanes.{no_run}
use Rattle.blk_index.proofs.lane.Lane.new.Goals as goal

pub returns-clause-none : goal.returns-clause-none
returns-clause-none g c = no_run c.new.result.items c.new-2.result.entries c.new.ensures.items c.new-2.ensures.empty
