use Rattle.std.proofs.Common.{◌≡◌, ◌∷◌, []}
use Rattle.std.specs.Prelude.{fold}
use Rattle.std.specs.List.{range_with_len}
use Rattle.blk_schedulers.specs.Grids.{blank_of, with_values}
use Rattle.blk_schedulers.specs.Lists.{numbers_at}
use Rattle.blk_schedulers.specs.Rows.{row_for}
use Rattle.blk_schedulers.proofs.grid.rows_of_kind.Given as goal

abbrev pub invariant-loop-place : goal.invariant-loop-place
invariant-loop-place g l = l.all.items ≡ fold (λ scheds place. with_values (numbers_at (g.G.Given.given l.options) (row_for l.fn.kind).settings place) place scheds) (blank_of l.fn.kind ∷ []) (range_with_len 0 l.place)
