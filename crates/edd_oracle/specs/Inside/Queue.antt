-- The released commands in their heap, and those that are still to be released.
use Rattle.std.specs.Prelude.{ℕ, ◌≡◌, ◌≤◌, ◌<◌, ◌+◌, ◌==◌, List, Option, None, length, drop, count_by, slice_index_or}
use Rattle.std.specs.Ordering.{ordering_then, nat_cmp}
use Rattle.std.specs.declared.cmp.Ordering.{Ordering}
use Rattle.std.specs.declared.cmp.Reverse.{Reverse}
use Rattle.edd_commands.specs.declared.Command.{Command}
use Rattle.edd_oracle.specs.declared.queue.Arrival.{Arrival}
use Rattle.edd_oracle.specs.declared.queue.Released.{Released}

-- the command at place k has no round yet
pub record IsWaiting (rounds : List (Option ℕ)) (k : ℕ) : Type 0 where
  pub in_list : k < length rounds
  pub none : slice_index_or rounds k None ≡ None

-- the place and the release of a command
pub record IsArrival (commands : List Command) (a : Arrival) : Type 0 where
  pub in_list : a.place < length commands
  pub is_release : (d : Command) → a.release ≡ (slice_index_or commands a.place d).release

-- a command that is released by the round x
pub record IsReleasedBy (commands : List Command) (x : ℕ) (w : Reverse Released) : Type 0 where
  pub in_list : w.0.place < length commands
  pub is_due : (d : Command) → w.0.due ≡ (slice_index_or commands w.0.place d).due
  pub is_id : (d : Command) → w.0.id ≡ (slice_index_or commands w.0.place d).id
  pub released : (d : Command) → (slice_index_or commands w.0.place d).release ≤ x

-- how often the command at place k stands among the arrivals
unfoldable pub arrivals_of : List Arrival → ℕ → ℕ
arrivals_of arrivals k = count_by (λ a. a.place == k) arrivals

-- how often it stands in the heap
unfoldable pub held_of : List (Reverse Released) → ℕ → ℕ
held_of waiting k = count_by (λ w. w.0.place == k) waiting

-- as often as before each command stands in the heap or among the arrivals that are left
abbrev pub AreTakenIn : List Arrival → ℕ → List (Reverse Released) → List (Reverse Released) → ℕ → Type 0
AreTakenIn arrivals start old new next =
    (k : ℕ) → held_of new k + arrivals_of (drop next arrivals) k ≡ held_of old k + arrivals_of (drop start arrivals) k

-- the heap grows by the arrivals from `start` up to `next`
abbrev pub GrowsUpTo : ℕ → List (Reverse Released) → List (Reverse Released) → ℕ → Type 0
GrowsUpTo start old new next = length new + start ≡ length old + next

-- what comes out of the heap first is the greatest: the least by due round, id and place
abbrev pub waiting_cmp : Reverse Released → Reverse Released → Ordering
waiting_cmp x y =
    ordering_then (nat_cmp y.0.due x.0.due) (ordering_then (nat_cmp y.0.id x.0.id) (nat_cmp y.0.place x.0.place))

-- from place `next` on all are released after the round x
abbrev pub IsRest : List Arrival → ℕ → ℕ → Type 0
IsRest arrivals next x = (j : ℕ) (d : Arrival) → next ≤ j → j < length arrivals → x < (slice_index_or arrivals j d).release
