use Rattle.std.proofs.Common.{◌≡◌}
use Rattle.std.specs.Prelude.{slice_index_or}
use Rattle.blk_picture.specs.Scales.{shown_at}
use Rattle.blk_picture.specs.Columns.{no_column}
use Rattle.blk_picture.specs.Made.{made}
use Rattle.blk_picture.proofs.shapes.drawn_columns.Given as goal

-- those so far
abbrev pub invariant-loop-number : goal.invariant-loop-number
invariant-loop-number l = l.drawn.items ≡ made (λ n. slice_index_or l.columns (shown_at l.scale n) no_column) l.number
