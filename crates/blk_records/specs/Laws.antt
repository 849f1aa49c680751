-- The laws of a form, by which records spell which values, and by which first faults they have.
use Rattle.std.specs.Prelude.{◌≡◌, ◌⊎◌, ℕ, List}
use Rattle.csv.specs.Reading.{default_config, records, strip_bom}
use Rattle.blk_records.specs.Sources.{Row}
use Rattle.blk_records.specs.Texts.{rows_text}
use Rattle.blk_records.specs.declared.fault.TextReason.{TextReason}

-- records spell one value at most
abbrev pub OneValue : {V : Type 0} → (List Row → V → Type 0) → Type 0
OneValue {V} Spells = (rows : List Row) → (v u : V) → Spells rows v → Spells rows u → v ≡ u

-- the text of a value's records reads back as records that spell it
abbrev pub ReadsBack : {V : Type 0} → (V → Type 0) → (V → List Row) → (List Row → V → Type 0) → Type 0
ReadsBack {V} Fits rows_of Spells = (v : V) → Fits v → Spells (records default_config (strip_bom (rows_text (rows_of v)))) v

-- records spell a value or have a fault
abbrev pub ValueOrFault : {V : Type 0} → (List Row → V → Type 0) → (List Row → ℕ → TextReason → Type 0) → Type 0
ValueOrFault {V} Spells Fault = (rows : List Row) → ((v : V) × Spells rows v) ⊎ ((at : ℕ) × (w : TextReason) × Fault rows at w)

-- and never both
abbrev pub NeverBoth : {V : Type 0} → (List Row → V → Type 0) → (List Row → ℕ → TextReason → Type 0) → Type 0
NeverBoth {V} Spells Fault = (rows : List Row) → (v : V) → (at : ℕ) → (w : TextReason) → Spells rows v → Fault rows at w → ⊥

-- and one first fault at most
abbrev pub OneFault : (List Row → ℕ → TextReason → Type 0) → Type 0
OneFault Fault = (rows : List Row) → (at other : ℕ) → (w v : TextReason) → Fault rows at w → Fault rows other v → (at ≡ other) × (w ≡ v)
