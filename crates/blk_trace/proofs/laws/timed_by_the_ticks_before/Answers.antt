use Rattle.blk_trace.proofs.Timing.{timed_is}
use Rattle.blk_trace.proofs.laws.timed_by_the_ticks_before.Goals as goal

pub returns : goal.returns
returns c = timed_is
