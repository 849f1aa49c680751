-- A join of the candidate.
use Rattle.std.specs.Prelude.{ℕ, ◌≡◌, Bool, List, Option, None, Some, IfSome}
use mathlib.Core.Path.{sym, ap, subst, ◌∙◌}
use Rattle.std.specs.FinMap.{get, insert}
use Rattle.blk_bio.specs.declared.request.Side.{Side}
use Rattle.blk_bio.specs.Extents.{Extent}
use Rattle.blk_bio.specs.Limits.{Limits}
use Rattle.blk_sched.specs.Meaning.{Waiting, Meaning, HasCandidate, IsCandidate, Joins, StandsAt, JoinsAt, joined_waiting}

-- a candidate stands where it is joined
pub stands : (serves : ℕ → Waiting → Bool) (hw : ℕ) (limits : Limits) (newcomer : Extent) (m : Meaning) (id : ℕ) (side : Side) → HasCandidate serves hw limits newcomer m id side → StandsAt serves hw newcomer m id side
stands serves hw limits newcomer m id side has = (has.0, has.1.pending, has.1.served, has.1.fits.touches)

-- of a request that is there, this
of_some : (o : Option Waiting) (P : Waiting → Type 0) (w : Waiting) → o ≡ Some w → P w → IfSome o P
of_some o P w is p = subst (λ x. IfSome x P) (sym is) p

-- what joins a candidate joins as the law says
pub joins : (serves : ℕ → Waiting → Bool) (hw now : ℕ) (limits : Limits) (newcomer : Extent) (old : Meaning) (id : ℕ) (side : Side) (new : Meaning) → HasCandidate serves hw limits newcomer old id side → JoinsAt now newcomer old id side new → Joins serves hw now limits newcomer old id side new
joins serves hw now limits newcomer old id side new has (w, was, is) =
    (w, subst (λ x. IfSome x (IsCandidate serves hw limits newcomer old id side)) was (of_some (get old.pending id) (IsCandidate serves hw limits newcomer old id side) has.0 has.1.pending has.1), is)
