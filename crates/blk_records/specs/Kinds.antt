-- Kinds of records, each a row of data: a word, the first version that has it, and its fields.
use Rattle.std.specs.Prelude.{◌≡◌, ◌⊎◌, ◌-◌, ◌≤◌, ℕ, zero, suc, ℤ, List, [], ◌∷◌, length, set}
use Rattle.blk_bio.specs.declared.bio.Dir.{Dir}
use Rattle.blk_records.specs.Cells.{number_cells}
use Rattle.blk_records.specs.Texts.{AddsRows}
use Rattle.blk_records.specs.Sources.{Row}
use Rattle.blk_records.specs.Tables.{Cell, Blank, Direction, Number, Signed, Text, Nanoseconds, row_by, kinds_record}
use Rattle.blk_records.specs.declared.fault.TextReason.{TextReason}
use Rattle.blk_records.specs.declared.fields.Slot.{Slot}
use Rattle.blk_records.specs.declared.fields.Slot.TheVariants as slot
use Rattle.blk_records.specs.declared.kinds.Kind.{Kind}
use Rattle.blk_records.specs.declared.names.FieldName.{FieldName}
use Rattle.blk_records.specs.declared.titles.TitleRow.{TitleRow}
use Rattle.text_output.specs.declared.block.Block.{Block}
use Rattle.text_grammar.specs.Parts.{Part}

-- what comes with version 1 stands in each version
abbrev pub StandsFrom : ℕ → ℕ → Type 0
StandsFrom (suc zero) version = Unit {0}
StandsFrom since version = since ≤ version

-- a row of a table of kinds, whatever the length of its word and the number of its fields
pub record KindRow : Type 0 where
  pub word : List ℕ
  pub since : ℕ
  pub slots : List Slot
  pub names : List FieldName

abbrev pub row : {letters fields : ℕ} → Kind letters fields → KindRow
row k = record { word = k.word; since = k.since; slots = k.slots; names = k.names }

-- slots whose first number lies below a count
abbrev pub below : ℕ → List Slot → List Slot
below count slots = set slots 1 (slot.Number 0 (count - 1))

-- the row of a kind whose first number lies below a count
abbrev pub row_below : {letters fields : ℕ} → ℕ → Kind letters fields → KindRow
row_below count k = record { word = k.word; since = k.since; slots = below count k.slots; names = k.names }

-- a title as such a row, whose second field, the version, is one of those of its form
abbrev pub title_kind : {letters fields : ℕ} → TitleRow letters fields → KindRow
title_kind t = record { word = t.word; since = 1; slots = set t.slots 1 (slot.Number 1 t.latest); names = t.names }

-- what the fields of a record tell by their slots
abbrev pub Told : List Slot → Type 0
Told [] = Unit {0}
Told (slot.Given ∷ ss) = Told ss
Told (slot.Blank ∷ ss) = Told ss
Told (slot.Direction ∷ ss) = Dir × Told ss
Told (slot.Number least most ∷ ss) = ℕ × Told ss
Told (slot.Lateness most ∷ ss) = ℤ × Told ss
Told (slot.Text ∷ ss) = List ℕ × Told ss
Told (slot.Nanoseconds ∷ ss) = List ℕ × Told ss

-- the fields of a record of that, but for those that are looked at before
abbrev pub cells_of : {V : Type 0} → (ss : List Slot) → (V → Told ss) → List (Cell V)
cells_of [] told = []
cells_of (slot.Given ∷ ss) told = cells_of ss told
cells_of (slot.Blank ∷ ss) told = Blank ∷ cells_of ss told
cells_of (slot.Direction ∷ ss) told = Direction (λ v. (told v).0) ∷ cells_of ss (λ v. (told v).1)
cells_of (slot.Number least most ∷ ss) told = Number least most (λ v. (told v).0) ∷ cells_of ss (λ v. (told v).1)
cells_of (slot.Lateness most ∷ ss) told = Signed most (λ v. (told v).0) ∷ cells_of ss (λ v. (told v).1)
cells_of (slot.Text ∷ ss) told = Text (λ v. (told v).0) ∷ cells_of ss (λ v. (told v).1)
cells_of (slot.Nanoseconds ∷ ss) told = Nanoseconds (λ v. (told v).0) ∷ cells_of ss (λ v. (told v).1)

-- a row, and what a record of it says beside its word
abbrev pub RowSaid : Type 0
RowSaid = (k : KindRow) × Told k.slots

-- that record
abbrev pub said_row : RowSaid → Row
said_row s = s.0.word ∷ row_by (cells_of s.0.slots (λ v. v)) s.1

-- a table has this row
abbrev pub HasRow : List KindRow → KindRow → Type 0
HasRow [] k = ⊥
HasRow (r ∷ rows) k = (k ≡ r) ⊎ HasRow rows k

-- and it stands in a version
abbrev pub RowStandsIn : List KindRow → ℕ → KindRow → Type 0
RowStandsIn table version k = HasRow table k × StandsFrom k.since version

-- a record of one of the rows of a table that stand in a version, told by its word
abbrev pub said_record : TextReason → ℕ → List KindRow → ℕ → Part Row TextReason RowSaid
said_record gone width table version = kinds_record (λ k. Told k.slots) gone width (RowStandsIn table version) (λ k. k.word) (λ k. cells_of k.slots (λ v. v))

-- the text got the record of a word, these numbers, and empty fields, all in all this number after the word
abbrev pub AddsRecord : Block → Block → List ℕ → List ℕ → ℕ → Type 0
AddsRecord old new word numbers width = AddsRows old new ((word ∷ number_cells numbers (width - length numbers)) ∷ [])
