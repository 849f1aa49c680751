-- What the readers of fields tell of them.
use Rattle.std.specs.Prelude.{◌≡◌, ◌<◌, ◌^◌, ◌==◌, ◌&&◌, not, Bool, false, ℕ, List, [], ◌∷◌, length}
use Rattle.std.specs.Str.Parse.{AllDigits, digits_value}
use Rattle.blk_records.specs.Sources.{Row}
use Rattle.blk_records.specs.declared.fields.Rule.{Rule}
use Rattle.blk_records.specs.declared.fields.Rule.TheVariants as rule
use Rattle.blk_records.specs.declared.fields.Slot.{Slot}
use Rattle.blk_records.specs.Fields.{EachField, IsBlank, IsDirection, IsNumber, IsInRange}
use Rattle.blk_records.specs.declared.fields.Slot.TheVariants as slot

-- whether a field begins with no sign and with no zero before another byte
abbrev pub canonical : List ℕ → Bool
canonical [] = false
canonical (c ∷ []) = not (c == 43)
canonical (c ∷ d ∷ ds) = not (c == 43) && not (c == 48)

-- decimal digits that write a number which fits a u64, perhaps with zeros before it
abbrev pub WritesNumber : List ℕ → Type 0
WritesNumber f = AllDigits 10 f × (digits_value 10 f < 2 ^ 64)

-- a field keeps a rule of its slot
abbrev pub KeepsRule : Rule → Slot → List ℕ → Type 0
KeepsRule rule.Blank = IsBlank
KeepsRule rule.Direction = IsDirection
KeepsRule rule.Number = IsNumber

-- a field is all that its slot wants
abbrev pub IsGood : Slot → List ℕ → Type 0
IsGood s f = IsBlank s f × IsDirection s f × IsNumber s f × IsInRange s f

-- and so is each field of a record
abbrev pub IsWhole : List Slot → Row → Type 0
IsWhole slots row = (length row ≡ length slots) × EachField IsGood slots row

-- few fields have such a slot
abbrev pub IsSeldom : Slot → Type 0
IsSeldom (slot.Lateness most) = Unit {0}
IsSeldom slot.Nanoseconds = Unit {0}
IsSeldom s = ⊥
