-- What may stand in the fields of a record, and what a record lacks.
use Rattle.std.specs.Prelude.{◌≡◌, ◌⊎◌, ◌<◌, ◌≤◌, ◌^◌, ℕ, List, [], ◌∷◌, length, get_or, decimal}
use Rattle.std.specs.Str.Parse.{AllDigits, digits_value}
use Rattle.blk_bio.specs.declared.bio.Dir.{Dir}
use Rattle.blk_bio.specs.Letters.{direction_text}
use Rattle.edd_commands.specs.Order.{IsFirstFault}
use Rattle.blk_records.specs.Sources.{Row}
use Rattle.blk_records.specs.declared.fault.TextReason.{TextReason}
use Rattle.blk_records.specs.declared.fault.TextReason.TheVariants as why
use Rattle.blk_records.specs.declared.fields.Slot.{Slot}
use Rattle.blk_records.specs.declared.fields.Slot.TheVariants as slot

-- nanoseconds have nine digits, and tell this number
abbrev pub IsNanoseconds : List ℕ → Type 0
IsNanoseconds f = (length f ≡ 9) × AllDigits 10 f

abbrev pub TellsNanoseconds : List ℕ → ℕ → Type 0
TellsNanoseconds f n = IsNanoseconds f × (n ≡ digits_value 10 f)

-- each field of a record has this, beside the slot at its place
abbrev pub EachField : (Slot → List ℕ → Type 0) → List Slot → Row → Type 0
EachField P slots row = (k : ℕ) → k < length slots → P (get_or slots k slot.Given) (get_or row k [])

-- a blank field is empty
abbrev pub IsBlank : Slot → List ℕ → Type 0
IsBlank slot.Given f = Unit {0}
IsBlank slot.Blank f = f ≡ []
IsBlank slot.Direction f = Unit {0}
IsBlank (slot.Number least most) f = Unit {0}
IsBlank (slot.Lateness most) f = Unit {0}
IsBlank slot.Text f = Unit {0}
IsBlank slot.Nanoseconds f = Unit {0}

-- a direction is R or W
abbrev pub IsDirection : Slot → List ℕ → Type 0
IsDirection slot.Given f = Unit {0}
IsDirection slot.Blank f = Unit {0}
IsDirection slot.Direction f = (d : Dir) × (f ≡ direction_text d)
IsDirection (slot.Number least most) f = Unit {0}
IsDirection (slot.Lateness most) f = Unit {0}
IsDirection slot.Text f = Unit {0}
IsDirection slot.Nanoseconds f = Unit {0}

-- a signed number of this size: with one minus before it, if it is not 0
abbrev pub IsSized : List ℕ → ℕ → Type 0
IsSized f n = (f ≡ decimal n) ⊎ ((0 < n) × (f ≡ 45 ∷ decimal n))

-- a number is written in decimal digits without leading zeros, and fits a u64; nanoseconds are written in nine digits
abbrev pub IsNumber : Slot → List ℕ → Type 0
IsNumber slot.Given f = Unit {0}
IsNumber slot.Blank f = Unit {0}
IsNumber slot.Direction f = Unit {0}
IsNumber (slot.Number least most) f = (n : ℕ) × (n < 2 ^ 64) × (f ≡ decimal n)
IsNumber (slot.Lateness most) f = (n : ℕ) × (n < 2 ^ 64) × IsSized f n
IsNumber slot.Text f = Unit {0}
IsNumber slot.Nanoseconds f = IsNanoseconds f

-- a number lies in its slot's range
abbrev pub IsInRange : Slot → List ℕ → Type 0
IsInRange slot.Given f = Unit {0}
IsInRange slot.Blank f = Unit {0}
IsInRange slot.Direction f = Unit {0}
IsInRange (slot.Number least most) f = (n : ℕ) → n < 2 ^ 64 → f ≡ decimal n → (least ≤ n) × (n ≤ most)
IsInRange (slot.Lateness most) f = (n : ℕ) → n < 2 ^ 64 → IsSized f n → n ≤ most
IsInRange slot.Text f = Unit {0}
IsInRange slot.Nanoseconds f = Unit {0}

-- as many fields as slots, and the blank ones empty
abbrev pub IsShaped : List Slot → Row → Type 0
IsShaped slots row = (length row ≡ length slots) × EachField IsBlank slots row

-- the rules of a record, in the order in which they are looked at, each with its fault
abbrev pub record_rules : List Slot → Row → List (Type 0 × TextReason)
record_rules slots row =
    (IsShaped slots row, why.Fields)
    ∷ (EachField IsDirection slots row, why.Word)
    ∷ (EachField IsNumber slots row, why.Number)
    ∷ (EachField IsInRange slots row, why.Range) ∷ []

-- the first thing that a record lacks of its slots
abbrev pub Lacks : List Slot → Row → TextReason → Type 0
Lacks slots row = IsFirstFault (record_rules slots row)

-- this number is written in a field, a direction as its letter
abbrev pub NumberOf : Slot → List ℕ → ℕ → Type 0
NumberOf slot.Given f n = Unit {0}
NumberOf slot.Blank f n = Unit {0}
NumberOf slot.Direction f n = f ≡ n ∷ []
NumberOf (slot.Number least most) f n = f ≡ decimal n
NumberOf (slot.Lateness most) f n = IsSized f n
NumberOf slot.Text f n = Unit {0}
NumberOf slot.Nanoseconds f n = TellsNanoseconds f n

-- a number lies in a slot's range
abbrev pub IsWithinSlot : Slot → ℕ → Type 0
IsWithinSlot slot.Given n = Unit {0}
IsWithinSlot slot.Blank n = Unit {0}
IsWithinSlot slot.Direction n = Unit {0}
IsWithinSlot (slot.Number least most) n = (least ≤ n) × (n ≤ most)
IsWithinSlot (slot.Lateness most) n = n ≤ most
IsWithinSlot slot.Text n = Unit {0}
IsWithinSlot slot.Nanoseconds n = n < 10 ^ 9

-- each field of a record has this, beside the slot and the number at its place
abbrev pub EachNumber : (Slot → List ℕ → ℕ → Type 0) → List Slot → Row → List ℕ → Type 0
EachNumber P slots row ns = (k : ℕ) → k < length slots → P (get_or slots k slot.Given) (get_or row k []) (get_or ns k 0)

-- a field is what its slot wants, and spells this number where the slot has one
abbrev pub FieldSpells : Slot → List ℕ → ℕ → Type 0
FieldSpells s f n = IsBlank s f × IsDirection s f × NumberOf s f n × IsWithinSlot s n

-- a record's fields spell these numbers, by place
abbrev pub FieldsSpell : List Slot → Row → List ℕ → Type 0
FieldsSpell slots row ns = (length row ≡ length slots) × EachNumber FieldSpells slots row ns
