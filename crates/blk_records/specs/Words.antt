-- Records that begin with a word.
use Rattle.std.specs.Prelude.{◌≡◌, ◌⊎◌, ◌+◌, ℕ, List, [], ◌∷◌, length}
use Rattle.blk_records.specs.Sources.{Row}
use Rattle.blk_records.specs.Fields.{Lacks}
use Rattle.blk_records.specs.declared.fault.TextReason.{TextReason}
use Rattle.blk_records.specs.declared.fault.TextReason.TheVariants as why
use Rattle.blk_records.specs.declared.fields.Slot.{Slot}
use Rattle.blk_records.specs.declared.fields.Slot.TheVariants as slot

-- a record begins with this word
abbrev pub StartsWith : List ℕ → Row → Type 0
StartsWith word row = (more : Row) × (row ≡ word ∷ more)

-- there is a record, and it begins with this word
abbrev pub NextStarts : List ℕ → List Row → Type 0
NextStarts word [] = ⊥
NextStarts word (row ∷ rows) = StartsWith word row

-- where no word may stand that a record begins with, only its number of fields is looked at before
abbrev pub HasNoWord : ℕ → Row → TextReason → Type 0
HasNoWord width row w = ((w ≡ why.Fields) × ¬ (length row ≡ width)) ⊎ ((length row ≡ width) × (w ≡ why.Word))

-- what is wrong with a record that ought to begin with this word, and then have these slots
abbrev pub WordLacks : List ℕ → List Slot → Row → TextReason → Type 0
WordLacks word slots row w = (StartsWith word row × Lacks (slot.Given ∷ slots) row w) ⊎ ((¬ StartsWith word row) × HasNoWord (length slots + 1) row w)
