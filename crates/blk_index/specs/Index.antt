-- What waits, with the places of its requests.
use Rattle.std.specs.Prelude.{ℕ, ◌≡◌, ◌<◌, ◌≤◌, ◌⊎◌, Option, Some}
use Rattle.std.specs.FinMap as map
use Rattle.blk_bio.specs.declared.bio.Dir.{Dir}
use Rattle.blk_bio.specs.declared.request.Side.{Side}
use Rattle.blk_bio.specs.Extents.{Extent}
use Rattle.blk_sched.specs.Meaning.{Waiting, Pending, joined_waiting}

-- the request of an id is joined by a newcomer at a side, and the others stay
pub record IsJoined (now : ℕ) (newcomer : Extent) (old : Pending) (id : ℕ) (side : Side) (new : Pending) : Type 0 where
  pub waiting : Waiting
  pub was : map.get old id ≡ Some waiting
  pub is : new ≡ map.insert old id (joined_waiting side now newcomer waiting)

-- the least id of a direction
pub record IsOldest (dir : Dir) (found : ℕ → Option Waiting) (id : ℕ) : Type 0 where
  pub waiting : Waiting
  pub is_found : found id ≡ Some waiting
  pub same_dir : waiting.extent.dir ≡ dir
  pub least : (k : ℕ) (v : Waiting) → k < id → found k ≡ Some v → v.extent.dir ≡ dir → ⊥

-- the least id of all
pub record IsFirst (found : ℕ → Option Waiting) (id : ℕ) : Type 0 where
  pub waiting : Waiting
  pub is_found : found id ≡ Some waiting
  pub least : (k : ℕ) (v : Waiting) → k < id → found k ≡ Some v → ⊥

abbrev pub FindsNothing : (ℕ → Option Waiting) → Type 0
FindsNothing found = (k : ℕ) (v : Waiting) → found k ≡ Some v → ⊥

-- one number with an id comes before another
abbrev pub IsBefore : ℕ → ℕ → ℕ → ℕ → Type 0
IsBefore first id other k = (first < other) ⊎ ((first ≡ other) × (id < k))

-- of a direction's requests after a first sector and an id the first
pub record IsNext (dir : Dir) (first last : ℕ) (found : ℕ → Option Waiting) (id : ℕ) : Type 0 where
  pub waiting : Waiting
  pub is_found : found id ≡ Some waiting
  pub same_dir : waiting.extent.dir ≡ dir
  pub after : IsBefore first last waiting.extent.first id
  pub least : (k : ℕ) (v : Waiting) → found k ≡ Some v → v.extent.dir ≡ dir → IsBefore first last v.extent.first k → IsBefore v.extent.first k waiting.extent.first id → ⊥

abbrev pub NoneOf : Dir → (ℕ → Option Waiting) → Type 0
NoneOf dir found = (k : ℕ) (v : Waiting) → found k ≡ Some v → v.extent.dir ≡ dir → ⊥

abbrev pub NoNext : Dir → ℕ → ℕ → (ℕ → Option Waiting) → Type 0
NoNext dir first last found = (k : ℕ) (v : Waiting) → found k ≡ Some v → v.extent.dir ≡ dir → IsBefore first last v.extent.first k → ⊥

-- of the requests that are due from `start` on the one that is due first, of several the one of the least id
pub record IsFirstFrom (start : ℕ) (found : ℕ → Option Waiting) (id : ℕ) : Type 0 where
  pub waiting : Waiting
  pub is_found : found id ≡ Some waiting
  pub from_start : start ≤ waiting.due
  pub least : (k : ℕ) (v : Waiting) → found k ≡ Some v → start ≤ v.due → IsBefore v.due k waiting.due id → ⊥

-- none is due from `start` on
abbrev pub NoneFrom : ℕ → (ℕ → Option Waiting) → Type 0
NoneFrom start found = (k : ℕ) (v : Waiting) → found k ≡ Some v → start ≤ v.due → ⊥
