-- Which field of a record has a fault.
use Rattle.std.specs.Prelude.{ℕ, Option, MatchOption}
use Rattle.blk_records.specs.Sources.{Row}
use Rattle.blk_records.specs.declared.fault.TextReason.{TextReason}
use Rattle.blk_explain.specs.declared.fields.Allowed.{Allowed}
use Rattle.blk_records.specs.Kinds.{KindRow}
use Rattle.blk_explain.specs.Broken.{IsKeptAt, IsBrokenAt, IsFirstBrokenAt, AllKept, LiesIn, LiesInNone}

-- whether the field at a place has the fault, and what may stand in it then; the same of the first one that does
abbrev pub SaysIfBroken : Row → KindRow → TextReason → Row → ℕ → Option Allowed → Type 0
SaysIfBroken title kind w row k o = MatchOption o (IsKeptAt title kind w row k) (IsBrokenAt title kind w row k)

abbrev pub SaysFirstBroken : Row → KindRow → TextReason → Row → Option (ℕ × Allowed) → Type 0
SaysFirstBroken title kind w row o = MatchOption o (AllKept title kind w row) (λ p. IsFirstBrokenAt title kind w row p.0 p.1)

-- which field a fault lies in, if it lies in one
abbrev pub SaysBroken : Row → KindRow → TextReason → Row → Option (ℕ × Allowed) → Type 0
SaysBroken title kind w row o = MatchOption o (LiesInNone title kind w row) (λ p. LiesIn title kind w row p.0 p.1)
