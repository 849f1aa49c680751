-- What private functions and proofs alone need.
use Rattle.std.specs.Prelude.{ℕ, ◌≡◌, ◌≢◌, ◌<◌, ◌≤◌, ◌+◌, List, length, take, slice_get, Some}
use Rattle.std.specs.FinMap.{get, len}
use Rattle.blk_sched.specs.Meaning.{Waiting, Pending, Meaning}
use Rattle.blk_sched.specs.Policies.{Policy}
use Rattle.blk_replay.specs.declared.Arrived.{Arrived}
use Rattle.blk_replay.specs.Replay.{waiting, once_entered, ServesNext, standing}

-- those from the place `first` up to `next` have entered, which are released in the round, as none before is
pub record HasEntered (requests : List Arrived) (round first next : ℕ) (old new : Pending) : Type 0 where
  pub from : first ≤ next
  pub within : next ≤ length requests
  pub is : new ≡ once_entered round 0 (take next requests) old
  pub these : (p : ℕ) (r : Arrived) → first ≤ p → p < next → slice_get requests p ≡ Some r → (r.release ≡ round) × (get new p ≡ Some (waiting p r))
  pub below : (p : ℕ) → p < first → get new p ≡ get old p
  pub above : (p : ℕ) → next ≤ p → get new p ≡ get old p
  pub count : len new + first ≡ len old + next

-- the same of a scheduler's meaning, of which nothing else changes
abbrev pub HaveEntered : List Arrived → ℕ → ℕ → ℕ → Meaning → Meaning → Type 0
HaveEntered requests round first next old new = HasEntered requests round first next old.pending new.pending

abbrev pub ChangesPending : Meaning → Meaning → Type 0
ChangesPending old new = new ≡ record old { pending = new.pending }

-- in the round the request of an id is served
abbrev pub ServesId : Policy → ℕ → Meaning → List ℕ → ℕ → Meaning → List ℕ → Type 0
ServesId policy round old old_kept id new new_kept = (w : Waiting) × (id ≡ w.id) × ServesNext policy round (standing old old_kept) w (standing new new_kept)

-- nothing more of the round is released at the place
abbrev pub IsLater : List Arrived → ℕ → ℕ → Type 0
IsLater requests round place = (r : Arrived) → slice_get requests place ≡ Some r → r.release ≢ round
