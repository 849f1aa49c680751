use Rattle.std.proofs.Common.{◌≡◌, take}
use Rattle.blk_schedulers.specs.Plans.{fifos_of}
use Rattle.blk_schedulers.proofs.plans.fifos_of.Given as goal

abbrev pub invariant-loop-read : goal.invariant-loop-read
invariant-loop-read l = l.all.items ≡ fifos_of (take l.read-index l.reads) l.writes
