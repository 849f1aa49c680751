-- A record by a table of its fields.
use Rattle.std.specs.Prelude.{◌≤◌, ℕ, suc, ℤ, pos, negsuc, List, [], ◌∷◌, decimal}
use Rattle.std.specs.Fmt.{signed_decimal}
use Rattle.blk_bio.specs.declared.bio.Dir.{Dir}
use Rattle.blk_records.specs.Sources.{Row}
use Rattle.blk_bio.specs.Letters.{direction_text}
use Rattle.blk_records.specs.Fields.{Lacks, IsNanoseconds}
use Rattle.blk_records.specs.Words.{NextStarts, HasNoWord, WordLacks}
use Rattle.blk_records.specs.declared.fault.TextReason.{TextReason}
use Rattle.blk_records.specs.declared.fields.Slot.{Slot}
use Rattle.blk_records.specs.declared.fields.Slot.TheVariants as slot
use Rattle.text_grammar.specs.Parts.{Part, NextWrong, record_of, by_word}

-- what stands in a field of the record of a value: nothing, a direction, a number from `least` to `most`, a signed
-- number of a size up to `most`, any text, or the nine digits of nanoseconds
pub data Cell (V : Type 0) : Type 0 where
  Blank : Cell V
  Direction : (V → Dir) → Cell V
  Number : ℕ → ℕ → (V → ℕ) → Cell V
  Signed : ℕ → (V → ℤ) → Cell V
  Text : (V → List ℕ) → Cell V
  Nanoseconds : (V → List ℕ) → Cell V

-- the slot of a field
abbrev pub cell_slot : {V : Type 0} → Cell V → Slot
cell_slot Blank = slot.Blank
cell_slot (Direction f) = slot.Direction
cell_slot (Number least most f) = slot.Number least most
cell_slot (Signed most f) = slot.Lateness most
cell_slot (Text f) = slot.Text
cell_slot (Nanoseconds f) = slot.Nanoseconds

-- the text of a field
abbrev pub field_of : {V : Type 0} → V → Cell V → List ℕ
field_of v Blank = []
field_of v (Direction f) = direction_text (f v)
field_of v (Number least most f) = decimal (f v)
field_of v (Signed most f) = signed_decimal (f v)
field_of v (Text f) = f v
field_of v (Nanoseconds f) = f v

-- the record of a value
abbrev pub row_by : {V : Type 0} → List (Cell V) → V → Row
row_by [] v = []
row_by (c ∷ cs) v = field_of v c ∷ row_by cs v

abbrev pub slots_by : {V : Type 0} → List (Cell V) → List Slot
slots_by [] = []
slots_by (c ∷ cs) = cell_slot c ∷ slots_by cs

-- the cells of numbers by the slots of their fields, but for those that are looked at before
abbrev pub cells_by : {V : Type 0} → List Slot → List (V → ℕ) → List (Cell V)
cells_by [] fs = []
cells_by (slot.Given ∷ ss) fs = cells_by ss fs
cells_by (slot.Number least most ∷ ss) (f ∷ fs) = Number least most f ∷ cells_by ss fs
cells_by (s ∷ ss) fs = Blank ∷ cells_by ss fs

-- a signed number of a size up to `most`
abbrev pub IsUpTo : ℕ → ℤ → Type 0
IsUpTo most (pos n) = n ≤ most
IsUpTo most (negsuc n) = suc n ≤ most

-- the number of a field lies in its range, and its digits are nine
abbrev pub FitsCell : {V : Type 0} → V → Cell V → Type 0
FitsCell v Blank = Unit {0}
FitsCell v (Direction f) = Unit {0}
FitsCell v (Number least most f) = (least ≤ f v) × (f v ≤ most)
FitsCell v (Signed most f) = IsUpTo most (f v)
FitsCell v (Text f) = Unit {0}
FitsCell v (Nanoseconds f) = IsNanoseconds (f v)

-- all of them do
abbrev pub FitsCells : {V : Type 0} → List (Cell V) → V → Type 0
FitsCells [] v = Unit {0}
FitsCells (c ∷ cs) v = FitsCell v c × FitsCells cs v

-- a record all of whose fields are looked at
abbrev pub table_record : {V : Type 0} → TextReason → List (Cell V) → (V → Type 0) → Part Row TextReason V
table_record gone cells Fits = record_of (row_by cells) Fits gone (Lacks (slots_by cells))

-- a word, and then the fields of a table
abbrev pub word_record : {V : Type 0} → TextReason → List ℕ → List (Cell V) → (V → Type 0) → Part Row TextReason V
word_record gone word cells Fits = record_of (λ v. word ∷ row_by cells v) Fits gone (WordLacks word (slots_by cells))

-- a record of one of some kinds, each with a word and a table of its own, and all of one width; only some of the kinds may stand there
abbrev pub kinds_record : {K : Type 0} (V : K → Type 0) → TextReason → ℕ → (K → Type 0) → (K → List ℕ) → ((k : K) → List (Cell (V k))) → Part Row TextReason ((k : K) × V k)
kinds_record V gone width Stands word_of cells =
    by_word V (λ k rows. Stands k × NextStarts (word_of k) rows) (λ k. word_record gone (word_of k) (cells k) (λ v. Stands k × FitsCells (cells k) v)) (NextWrong gone (HasNoWord width))
