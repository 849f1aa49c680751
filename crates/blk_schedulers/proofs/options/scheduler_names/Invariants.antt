use Rattle.std.proofs.Common.{◌≡◌, map, take}
use Rattle.blk_schedulers.specs.Row.{sched_row_of}
use Rattle.blk_schedulers.proofs.options.scheduler_names.Given as goal

abbrev pub invariant-loop-row : goal.invariant-loop-row
invariant-loop-row l = map (λ name. name.now) l.names.items ≡ map (λ r. r.name) (map sched_row_of (take l.row-index l.row-items))
