use Rattle.std.proofs.Common.{◌≡◌, map, take}
use Rattle.std.specs.List.{flat_map}
use Rattle.blk_schedulers.specs.Options.{option_of, options_of}
use Rattle.blk_schedulers.specs.Row.{sched_row_of}
use Rattle.blk_schedulers.proofs.options.tuning_options.Given as goal

abbrev pub invariant-loop-row : goal.invariant-loop-row
invariant-loop-row l = map option_of l.all.items ≡ flat_map (λ r. options_of r.settings) (map sched_row_of (take l.row-index l.row-items))
