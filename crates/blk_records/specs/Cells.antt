-- The pieces of a record that is written.
use Rattle.std.specs.Prelude.{◌≡◌, ◌≤◌, false, ℕ, List, [], ◌++◌, length, map, decimal}
use Rattle.std.proofs.Math.ListN.{replicate}
use Rattle.csv.specs.Writing.{needs_quotes, default_writer}
use Rattle.text_output.specs.declared.pieces.TheConstants.{MAX_DIGITS}
use Rattle.blk_records.specs.Sources.{Row}

-- a word that needs no quotes and is no longer than a number may be
abbrev pub IsPlainWord : List ℕ → Type 0
IsPlainWord w = (length w ≤ MAX_DIGITS) × (needs_quotes default_writer w ≡ false)

-- the fields of numbers, and then this number of empty ones
abbrev pub number_cells : List ℕ → ℕ → Row
number_cells numbers blanks = map decimal numbers ++ replicate blanks []
