-- Places in a list of requests, and how far it was looked through.
use Rattle.std.specs.Prelude.{ℕ, ◌≡◌, ◌<◌, List, Some, slice_get, Option, None, [], ◌∷◌, map as each}
use Rattle.std.specs.Ordering.{nat_cmp}
use Rattle.std.specs.BTreeMap.{is_at}
use Rattle.std.specs.Map.{lookup}
use Rattle.blk_bio.specs.declared.request.Side.{Side}
use Rattle.blk_bio.specs.Extents.{Extent, FitAt, FitOnlyAt, FitNowhere}
use Rattle.blk_bio.specs.Limits.{Limits}
use Rattle.blk_sched.specs.Meaning.{Waiting}
use Rattle.blk_lifo.specs.Stacks.{named}

-- a newcomer fits none of the requests before a place
abbrev pub FitsNoneOf : Limits → Extent → List Waiting → ℕ → Type 0
FitsNoneOf limits newcomer requests until =
    (k : ℕ) (w : Waiting) → k < until → slice_get requests k ≡ Some w → FitNowhere limits w.extent newcomer

-- of the requests before a place that a newcomer fits, the greatest id, and the side
pub record IsNewest (limits : Limits) (newcomer : Extent) (requests : List Waiting) (until id : ℕ) (side : Side) : Type 0 where
  pub place : ℕ
  pub waiting : Waiting
  pub stands : slice_get requests place ≡ Some waiting
  pub its_id : waiting.id ≡ id
  pub fits : FitAt limits waiting.extent newcomer side
  pub only : FitOnlyAt limits waiting.extent newcomer side
  pub newest : (k : ℕ) (w : Waiting) → k < until → slice_get requests k ≡ Some w → id < w.id → FitNowhere limits w.extent newcomer

-- that one, where there is one
abbrev pub IsNewestOf : Limits → Extent → List Waiting → ℕ → Option (ℕ × Side) → Type 0
IsNewestOf limits newcomer requests until None = FitsNoneOf limits newcomer requests until
IsNewestOf limits newcomer requests until (Some (id, side)) = IsNewest limits newcomer requests until id side

-- the request of an id, if there is one
abbrev pub found : List Waiting → ℕ → Option Waiting
found requests id = lookup (is_at (nat_cmp id)) (each named requests)

-- no two requests have one id
unfoldable pub HaveDistinctIds : List Waiting → Type 0
HaveDistinctIds [] = Unit {0}
HaveDistinctIds (w ∷ ws) = (found ws w.id ≡ None) × HaveDistinctIds ws
