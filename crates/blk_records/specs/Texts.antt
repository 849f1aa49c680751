-- The text of records.
use Rattle.std.specs.Prelude.{◌≡◌, ℕ, List, [], ◌∷◌, ◌++◌}
use Rattle.csv.specs.Writing.{row_text, default_writer}
use Rattle.blk_records.specs.Sources.{Row}
use Rattle.text_output.specs.Drafts.{draft_text}
use Rattle.text_output.specs.declared.block.Block.{Block}

-- the text of some records, as the usual writer writes them
unfoldable pub rows_text : List Row → List ℕ
rows_text [] = []
rows_text (row ∷ rows) = row_text default_writer row ++ rows_text rows

-- a text that is made got these records
abbrev pub AddsRows : Block → Block → List Row → Type 0
AddsRows old new rows = draft_text new ≡ draft_text old ++ rows_text rows
