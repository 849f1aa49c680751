-- How the commands leave the queue, one after the other: each with a round, or without one where late ones are passed over.
use Rattle.std.specs.Prelude.{ℕ, ◌≡◌, ◌≤◌, ◌<◌, ◌+◌, ◌-◌, ◌==◌, ◌⊎◌, Bool, true, false, cond, IsTrue, List, Option, Some, None, length, count_by, slice_index_or, slice_set}
use Rattle.edd_commands.specs.declared.Command.{Command}
use Rattle.edd_commands.specs.declared.steps.Step.{Step}
use Rattle.edd_commands.specs.Capacity.{depth_at}
use Rattle.edd_commands.specs.declared.TheConstants.{MAX_RELEASES}
use Rattle.edd_oracle.specs.declared.queue.Released.{Released}
use Rattle.edd_oracle.specs.declared.queue.Arrival.{Arrival}
use Rattle.edd_oracle.specs.Inside.Queue.{IsWaiting, arrivals_of}
use Rattle.edd_oracle.specs.Priority.{ComesFirst}

-- whether this is the round x
abbrev pub has_round : ℕ → Option ℕ → Bool
has_round x None = false
has_round x (Some y) = y == x

-- how many commands have the round x so far
unfoldable pub placed_at : List (Option ℕ) → ℕ → ℕ
placed_at rounds x = count_by (has_round x) rounds

-- whether this is no round
abbrev pub has_none : Option ℕ → Bool
has_none None = true
has_none (Some y) = false

-- one where the command at place k has no round
abbrev pub unplaced_at : List (Option ℕ) → ℕ → ℕ
unplaced_at rounds k = cond (has_none (slice_index_or rounds k None)) 1 0

-- of the first n commands those that have no round yet stand among the arrivals, each once
abbrev pub AreUnplaced : List (Option ℕ) → ℕ → List Arrival → Type 0
AreUnplaced rounds n arrivals = (k : ℕ) → k < n → arrivals_of arrivals k ≡ unplaced_at rounds k

-- how many commands have no round yet
unfoldable pub unplaced_count : List (Option ℕ) → ℕ
unplaced_count rounds = count_by has_none rounds

-- the command may still have the round x: where late ones are passed over, only one up to its due round
abbrev pub IsInTime : Bool → Command → ℕ → Type 0
IsInTime passes c x = IsTrue passes → x ≤ c.due

-- of the waiting commands that may still have the round x the one at place k has the least release
pub record IsFirstReleased (passes : Bool) (commands : List Command) (rounds : List (Option ℕ)) (x k : ℕ) : Type 0 where
  pub waiting : IsWaiting rounds k
  pub least : (j : ℕ) (d : Command) → IsWaiting rounds j → IsInTime passes (slice_index_or commands j d) x → (slice_index_or commands k d).release ≤ (slice_index_or commands j d).release

-- of the waiting commands released by the round x that may still have it the one at place k comes first
pub record IsEarliestDue (passes : Bool) (commands : List Command) (rounds : List (Option ℕ)) (x k : ℕ) : Type 0 where
  pub waiting : IsWaiting rounds k
  pub released : (d : Command) → (slice_index_or commands k d).release ≤ x
  pub least : (j : ℕ) (d : Command) → IsWaiting rounds j → (slice_index_or commands j d).release ≤ x → IsInTime passes (slice_index_or commands j d) x → ComesFirst (slice_index_or commands k d) (slice_index_or commands j d)

-- the command at place k could run in the round x: it is released, may still have it, and has no round up to x
pub record CouldRun (passes : Bool) (commands : List Command) (rounds : List (Option ℕ)) (x k : ℕ) (d : Command) : Type 0 where
  pub in_list : k < length commands
  pub released : (slice_index_or commands k d).release ≤ x
  pub in_time : IsInTime passes (slice_index_or commands k d) x
  pub later : (y : ℕ) → slice_index_or rounds k None ≡ Some y → x < y

-- the command has the round and one place of it, or it is late and was passed over
abbrev pub IsTakenOut : Bool → Released → ℕ → List (Option ℕ) → List (Option ℕ) → ℕ → Type 0
IsTakenOut passes w round old new places =
    ((places ≡ 1) × (IsTrue passes → round ≤ w.due) × (new ≡ slice_set old w.place (Some round))) ⊎ ((places ≡ 0) × IsTrue passes × (w.due < round) × (new ≡ old))

-- the rounds that are given already lie before `start`, and there is room for the others
pub record IsBegun (commands : List Command) (rounds : List (Option ℕ)) (steps : List Step) (start : ℕ) : Type 0 where
  pub one_each : length rounds ≡ length commands
  pub before : (k x : ℕ) (d : Command) → slice_index_or rounds k None ≡ Some x → ((slice_index_or commands k d).release ≤ x) × (x < start)
  pub within : (x : ℕ) → placed_at rounds x ≤ depth_at steps x
  pub room : start + unplaced_count rounds ≤ MAX_RELEASES + length commands

-- rounds that were assigned stay; a new one is `start` or later, at which the command may run
abbrev pub IsKept : Bool → List Command → List (Option ℕ) → List (Option ℕ) → ℕ → Type 0
IsKept passes commands begun rounds start =
    ((k x : ℕ) → slice_index_or begun k None ≡ Some x → slice_index_or rounds k None ≡ Some x) × ((k x : ℕ) (d : Command) → slice_index_or rounds k None ≡ Some x → (slice_index_or begun k None ≡ Some x) ⊎ ((start ≤ x) × IsInTime passes (slice_index_or commands k d) x))

-- once all have left: from `start` on, a round in which a command could run that has none up to it is full, of commands
-- that come first
pub record HaveLeft (passes : Bool) (commands : List Command) (begun rounds : List (Option ℕ)) (steps : List Step) (start : ℕ) : Type 0 where
  pub one_each : length rounds ≡ length commands
  pub kept : IsKept passes commands begun rounds start
  pub released : (k x : ℕ) (d : Command) → slice_index_or rounds k None ≡ Some x → (slice_index_or commands k d).release ≤ x
  pub within : (x : ℕ) → placed_at rounds x ≤ depth_at steps x
  pub full : (x k : ℕ) (d : Command) → start ≤ x → CouldRun passes commands rounds x k d → placed_at rounds x ≡ depth_at steps x
  pub due_first : (x k p : ℕ) (d : Command) → start ≤ x → CouldRun passes commands rounds x k d → slice_index_or rounds p None ≡ Some x → ComesFirst (slice_index_or commands p d) (slice_index_or commands k d)
  pub all : (k : ℕ) → IsWaiting rounds k → IsTrue passes
  pub some : (x : ℕ) → 0 < depth_at steps x
  pub room : (k x : ℕ) → slice_index_or rounds k None ≡ Some x → x + 1 + unplaced_count rounds ≤ MAX_RELEASES + length commands

-- one more than the last of the rounds, or 0 where there is none
pub record IsAfter (rounds : List (Option ℕ)) (end : ℕ) : Type 0 where
  pub before : (k x : ℕ) → slice_index_or rounds k None ≡ Some x → x < end
  pub last : (end ≡ 0) ⊎ ((k : ℕ) × (slice_index_or rounds k None ≡ Some (end - 1)))
