use Rattle.std.proofs.Common.{◌≡◌, ◌++◌, map, take}
use Rattle.blk_schedulers.specs.Plans.{fifo_of}
use Rattle.blk_schedulers.proofs.plans.push_fifos.Given as goal

abbrev pub invariant-loop-write : goal.invariant-loop-write
invariant-loop-write l = l.all.items ≡ l.fn.all.items ++ map (fifo_of l.read) (take l.write-index l.writes)
