-- The record of a bound, as it is written.
use Rattle.std.specs.Prelude.{ℤ, ◌∷◌, Option, Some, None}
use Rattle.edd_check.specs.declared.Window.{Window}
use Rattle.blk_records.specs.Sources.{Row}
use Rattle.blk_records.specs.Tables.{row_by}
use Rattle.blk_records.specs.Certificate.{bound_cells, no_bound_row}
use Rattle.blk_records.specs.declared.certificate.TheConstants.{BOUND}

-- the record of a bound, or of none
abbrev pub bound_row : Option (ℤ × Window) → Row
bound_row None = no_bound_row
bound_row (Some b) = BOUND.word ∷ row_by (bound_cells 0) b
