use Rattle.std.proofs.Common.{◌≡◌, ◌++◌, map, take}
use Rattle.blk_schedulers.specs.Grids.{with_value}
use Rattle.blk_schedulers.proofs.grid.push_values.Given as goal

abbrev pub invariant-loop-number : goal.invariant-loop-number
invariant-loop-number l = l.all.items ≡ l.fn.all.items ++ map (with_value l.place l.sched) (take l.number-index l.numbers)
