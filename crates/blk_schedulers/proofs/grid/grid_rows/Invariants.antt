use Rattle.std.proofs.Common.{◌≡◌, false, get_or, take}
use Rattle.std.specs.List.{flat_map}
use Rattle.blk_schedulers.specs.Grids.{rows_if, rows_of_kind}
use Rattle.blk_schedulers.specs.Rows.{sched_place}
use Rattle.blk_schedulers.proofs.grid.grid_rows.Given as goal

abbrev pub invariant-loop-kind : goal.invariant-loop-kind
invariant-loop-kind g l = l.all.items ≡ flat_map (λ k. rows_if (get_or l.tried (sched_place k) false) (rows_of_kind (g.G.Given.given l.options) k)) (take l.kind-index l.kind-items)
