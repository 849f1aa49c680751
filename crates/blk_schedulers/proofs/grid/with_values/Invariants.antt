use Rattle.std.proofs.Common.{◌≡◌, take}
use Rattle.blk_schedulers.specs.Grids.{with_values}
use Rattle.blk_schedulers.proofs.grid.with_values.Given as goal

abbrev pub invariant-loop-sched : goal.invariant-loop-sched
invariant-loop-sched l = l.all.items ≡ with_values l.numbers l.place (take l.sched-index l.scheds)
