use Rattle.blk_trace.proofs.Capacities.{depth_last, depth_none}
use Rattle.blk_trace.proofs.laws.depths_by_places.Goals as goal

pub returns : goal.returns
returns c = record { set = depth_last; none = depth_none }
