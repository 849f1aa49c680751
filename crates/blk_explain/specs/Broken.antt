-- Which field of a record has a fault, and what may stand in it.
use Rattle.std.specs.Prelude.{◌≡◌, ◌⊎◌, ◌-◌, ◌<◌, ◌^◌, ◌==◌, nat_lt, if◌then◌else◌, ℕ, List, [], get_or, codes, decimal}
use Rattle.blk_records.specs.Sources.{Row}
use Rattle.blk_records.specs.Fields.{IsBlank, IsDirection, IsNumber, IsInRange}
use Rattle.blk_records.specs.Kinds.{KindRow}
use Rattle.blk_records.specs.Titles.{slot_in}
use Rattle.blk_records.specs.declared.any.TheConstants.{MAX_FIELDS}
use Rattle.blk_records.specs.declared.fault.TextReason.{TextReason}
use Rattle.blk_records.specs.declared.fault.TextReason.TheVariants as why
use Rattle.blk_records.specs.declared.fields.Slot.{Slot}
use Rattle.blk_records.specs.declared.fields.Slot.TheVariants as slot
use Rattle.blk_text.specs.declared.bios.TheConstants.{MAX_SUBMITTERS}
use Rattle.blk_text.specs.declared.setup.TheConstants.{MORE_TAGS}
use Rattle.blk_explain.specs.Fields.{slot_at, name_at, want_of}
use Rattle.blk_explain.specs.declared.fields.Allowed.{Allowed}
use Rattle.blk_explain.specs.declared.fields.Allowed.TheVariants as allowed
use Rattle.blk_explain.specs.declared.fields.Want.{Want}
use Rattle.blk_explain.specs.declared.fields.Want.TheVariants as want

-- a field does not have the fault, beside its slot
abbrev pub KeepsSlot : TextReason → Slot → List ℕ → Type 0
KeepsSlot why.Fields s f = IsBlank s f
KeepsSlot why.Word s f = IsDirection s f
KeepsSlot why.Number s f = IsNumber s f
KeepsSlot why.Title s f = IsNumber s f × IsInRange s f
KeepsSlot why.Range s f = IsInRange s f
KeepsSlot (why.Bio b) s f = Unit {0}
KeepsSlot why.Tile s f = Unit {0}
KeepsSlot (why.Rule r) s f = Unit {0}
KeepsSlot why.RepeatedId s f = Unit {0}
KeepsSlot why.Order s f = Unit {0}
KeepsSlot why.Count s f = Unit {0}
KeepsSlot why.TooLong s f = Unit {0}
KeepsSlot why.Read s f = Unit {0}
KeepsSlot why.Memory s f = Unit {0}

-- and where `none` is wanted, and beside commands a number of this slot would be
abbrev pub KeepsNone : TextReason → Slot → List ℕ → Type 0
KeepsNone why.Fields s f = Unit {0}
KeepsNone why.Word s f = Unit {0}
KeepsNone why.Number s f = IsNumber s f ⊎ (f ≡ codes "none")
KeepsNone why.Title s f = Unit {0}
KeepsNone why.Range s f = f ≡ codes "none"
KeepsNone (why.Bio b) s f = Unit {0}
KeepsNone why.Tile s f = Unit {0}
KeepsNone (why.Rule r) s f = Unit {0}
KeepsNone why.RepeatedId s f = Unit {0}
KeepsNone why.Order s f = Unit {0}
KeepsNone why.Count s f = Unit {0}
KeepsNone why.TooLong s f = Unit {0}
KeepsNone why.Read s f = Unit {0}
KeepsNone why.Memory s f = Unit {0}

-- a field does not have the fault
abbrev pub KeepsIn : TextReason → Allowed → List ℕ → Type 0
KeepsIn w (allowed.Slot s) f = KeepsSlot w s f
KeepsIn w (allowed.NoNumber s) f = KeepsNone w s f

-- the number of a field of a record, 0 where it is none
abbrev pub IsNumberIn : Row → ℕ → ℕ → Type 0
IsNumberIn row k n = (get_or row k [] ≡ decimal n) ⊎ ((n ≡ 0) × ((m : ℕ) → m < 2 ^ 64 → ¬ (get_or row k [] ≡ decimal m)))

-- what may stand in a field of a bound beside n commands
abbrev pub beside_commands : ℕ → Slot → Allowed
beside_commands n t = if n == 0 then allowed.NoNumber t else allowed.Slot t

-- how many submitters there may be, by the number of them in the title, where it tells one
abbrev pub submitter_count : ℕ → ℕ
submitter_count n = if n == 0 then MAX_SUBMITTERS else n

-- a slot whose number is this at least too
abbrev pub with_least : ℕ → Slot → Slot
with_least n (slot.Number least most) = slot.Number (if nat_lt least n then n else least) most
with_least n s = s

-- what may stand in a field of a text with this title, by its slot
abbrev pub IsAllowedBy : Row → Slot → Want → Allowed → Type 0
IsAllowedBy title s want.Row a = a ≡ allowed.Slot s
IsAllowedBy title s want.Tags a = (v : ℕ) × IsNumberIn title 1 v × (a ≡ allowed.Slot (slot_in MORE_TAGS v s))
IsAllowedBy title s want.Queue a = (n : ℕ) × IsNumberIn title 3 n × (a ≡ allowed.Slot (slot.Number 0 (n - 1)))
IsAllowedBy title s want.Submitter a = (n : ℕ) × IsNumberIn title 5 n × (a ≡ allowed.Slot (slot.Number 0 (submitter_count n - 1)))
IsAllowedBy title s want.Bound a = (n : ℕ) × IsNumberIn title 3 n × (a ≡ beside_commands n s)
IsAllowedBy title s want.Submitters a = (n : ℕ) × IsNumberIn title 3 n × (a ≡ allowed.Slot (with_least n s))

-- what may stand in the field at a place of a kind of record
abbrev pub IsAllowedIn : Row → KindRow → ℕ → Allowed → Type 0
IsAllowedIn title kind k a = IsAllowedBy title (slot_at kind k) (want_of (name_at kind k)) a

-- the field at a place does not have the fault, and it does
abbrev pub IsKeptAt : Row → KindRow → TextReason → Row → ℕ → Type 0
IsKeptAt title kind w row k = (a : Allowed) × IsAllowedIn title kind k a × KeepsIn w a (get_or row k [])

abbrev pub IsBrokenAt : Row → KindRow → TextReason → Row → ℕ → Allowed → Type 0
IsBrokenAt title kind w row k a = IsAllowedIn title kind k a × ¬ KeepsIn w a (get_or row k [])

-- it is the first one that does
abbrev pub IsFirstBrokenAt : Row → KindRow → TextReason → Row → ℕ → Allowed → Type 0
IsFirstBrokenAt title kind w row k a = (k < MAX_FIELDS) × IsBrokenAt title kind w row k a × ((j : ℕ) → j < k → IsKeptAt title kind w row j)

-- none does
abbrev pub AllKept : Row → KindRow → TextReason → Row → Type 0
AllKept title kind w row = (j : ℕ) → j < MAX_FIELDS → IsKeptAt title kind w row j

-- a fault lies in the field at a place, in which this may stand: the first that has it, or, where each field is a number or `none` but they are
-- mixed, the first that is not what the others have to be
abbrev pub LiesIn : Row → KindRow → TextReason → Row → ℕ → Allowed → Type 0
LiesIn title kind w row k a =
    IsFirstBrokenAt title kind w row k a
    ⊎ ((w ≡ why.Number) × AllKept title kind w row × IsFirstBrokenAt title kind why.Range row k a)

-- it lies in none by itself
abbrev pub LiesInNone : Row → KindRow → TextReason → Row → Type 0
LiesInNone title kind w row = AllKept title kind w row × (w ≡ why.Number → AllKept title kind why.Range row)
