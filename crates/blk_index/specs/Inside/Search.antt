-- The search for a join at one side, and ids that are compared.
use Rattle.std.specs.Prelude.{ℕ, ◌≡◌, ◌<◌, ◌≤◌, ◌^◌, Option, Some, None, if◌then◌else◌, nat_lt}
use Rattle.blk_bio.specs.declared.request.Side.{Side}
use Rattle.blk_bio.specs.declared.request.Side.TheVariants.{Back, Front}
use Rattle.blk_bio.specs.Extents.{Extent, FitAt}
use Rattle.blk_bio.specs.Limits.{Limits}
use Rattle.blk_sched.specs.Meaning.{Waiting}

-- each request has its id
abbrev pub IsNamed : (ℕ → Option Waiting) → Type 0
IsNamed found = (id : ℕ) (w : Waiting) → found id ≡ Some w → w.id ≡ id

-- the newest request that fits at one side
pub record IsNewestBy (limits : Limits) (found : ℕ → Option Waiting) (newcomer : Extent) (side : Side) (id : ℕ) : Type 0 where
  pub waiting : Waiting
  pub is_found : found id ≡ Some waiting
  pub fits : FitAt limits waiting.extent newcomer side
  pub only : (other : Side) → FitAt limits waiting.extent newcomer other → other ≡ side
  pub newest : (other : ℕ) (w : Waiting) → id < other → found other ≡ Some w → FitAt limits w.extent newcomer side → ⊥

-- none fits at one side
abbrev pub FitsNoneBy : Limits → (ℕ → Option Waiting) → Extent → Side → Type 0
FitsNoneBy limits found newcomer side = (id : ℕ) (w : Waiting) → found id ≡ Some w → FitAt limits w.extent newcomer side → ⊥

-- one request fits at a side, and at no other
pub record FitsBy (limits : Limits) (found : Option Waiting) (newcomer : Extent) (side : Side) : Type 0 where
  pub waiting : Waiting
  pub is_found : found ≡ Some waiting
  pub fits : FitAt limits waiting.extent newcomer side
  pub only : (other : Side) → FitAt limits waiting.extent newcomer other → other ≡ side

-- ids that were passed, and how many there may be below
abbrev pub IsPassed : Option ℕ → ℕ → Type 0
IsPassed None k = ⊥
IsPassed (Some b) k = b ≤ k

abbrev pub count_below : Option ℕ → ℕ
count_below None = 2 ^ 64
count_below (Some b) = b

-- of a fit at the back and one at the front the newer, and the back where they are one
abbrev pub newer_of : Option ℕ → Option ℕ → Option (ℕ × Side)
newer_of None None = None
newer_of (Some b) None = Some (b, Back)
newer_of None (Some a) = Some (a, Front)
newer_of (Some b) (Some a) = if nat_lt b a then Some (a, Front) else Some (b, Back)

-- of two ids the lesser
abbrev pub lesser_of : Option ℕ → Option ℕ → Option ℕ
lesser_of None o = o
lesser_of (Some a) None = Some a
lesser_of (Some a) (Some b) = Some (if nat_lt b a then b else a)

-- the request of an id is this one
abbrev pub IsIdOf : (ℕ → Option Waiting) → Option Waiting → ℕ → Type 0
IsIdOf found request id = (w : Waiting) × (found id ≡ Some w) × (request ≡ Some w)
