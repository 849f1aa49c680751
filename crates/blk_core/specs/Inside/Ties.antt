-- What keeps a core tied to its trace.
use Rattle.std.specs.Prelude.{ℕ, ◌≡◌, ◌≤◌, ◌<◌, ◌⊎◌, ◌++◌, ◌∷◌, [], Bool, true, false, List, length, sum_by, slice_index_or, slice_set, Option, None, Some, cond}
use Rattle.std.specs.FinMap as map
use Rattle.blk_bio.specs.declared.bio.Dir.{Dir}
use Rattle.blk_bio.specs.declared.bio.Dir.TheVariants.{Read, Write}
use Rattle.blk_trace.specs.Setups.{Setup, IsSetup}
use Rattle.blk_trace.specs.Happened.{Happened}
use Rattle.blk_trace.specs.Events.{IsReleased}
use Rattle.blk_trace.specs.Legal.{IsLegalTrace}
use Rattle.blk_trace.specs.Inside.Seats.{RoundSeat, seat_at}
use Rattle.blk_trace.specs.Waits.{Entered, unissued_at, released_count}
use Rattle.blk_bio.specs.Requests.{IsRequest}
use Rattle.blk_trace.specs.Setups.{same_dir}
use Rattle.blk_sched.specs.Meaning.{Waiting, Meaning, ServesNothing, unfinished}
use Rattle.blk_queues.specs.Requeued.{requeued_in}
use Rattle.blk_core.specs.declared.tags.TagState.{TagState}
use Rattle.blk_core.specs.declared.tags.TagState.TheVariants.{Free, InFlight, Spent}
use Rattle.blk_core.specs.State.{Flight, InFlightAs, HoldsWhatWaits}

-- the command in flight under a tag that stands so
abbrev pub flight_of : TagState → Option Flight
flight_of Free = None
flight_of (InFlight hw queued) = Some (record { hw = hw; request = queued })
flight_of (Spent dir) = None

-- the seat that it stands for
abbrev pub seat_of : TagState → Option RoundSeat
seat_of Free = None
seat_of (InFlight hw queued) = Some (record { dir = queued.extent.dir; in_flight = true })
seat_of (Spent dir) = Some (record { dir = dir; in_flight = false })

-- its hardware queue
abbrev pub queue_of : TagState → ℕ
queue_of Free = 0
queue_of (InFlight hw queued) = hw
queue_of (Spent dir) = 0

-- of a command in flight under a tag that stands so, this; of another tag, nothing
abbrev pub IfInFlight : TagState → (ℕ → Waiting → Type 0) → Type 0
IfInFlight (InFlight hw queued) P = P hw queued
IfInFlight _ P = ⊥

-- a requeue: the request in flight goes behind the others in the requeue list of its hardware queue, and its tag is spent
abbrev pub Requeues : TagState → List (List Waiting) → TagState → List (List Waiting) → Type 0
Requeues old requeue_lists new new_lists =
    IfInFlight old (λ hw w. (new ≡ Spent w.extent.dir) × (new_lists ≡ slice_set requeue_lists hw (requeued_in requeue_lists hw ++ w ∷ [])))

-- a scheduler may pick none for a hardware queue: a pick is open or requeued, or it serves nothing for this one
abbrev pub MayPickNone : (ℕ → Waiting → Bool) → ℕ → Meaning → Type 0
MayPickNone serves hw m = (0 < unfinished m.open_picks) ⊎ ServesNothing serves hw m

-- 1 for a command of this direction in flight, else 0
abbrev pub flying : Dir → TagState → ℕ
flying dir Free = 0
flying dir (InFlight hw queued) = cond (same_dir dir (queued.extent.dir)) 1 0
flying dir (Spent d) = 0

-- a core's own fields say what its trace says
pub record IsTied (setup : Setup) (events : List Happened) (m : Meaning) (tags : List TagState) (requeue_lists : List (List Waiting)) (released : ℕ) : Type 0 where
  pub legal : IsLegalTrace setup events
  pub ranges : IsSetup setup
  pub holds : HoldsWhatWaits setup events m requeue_lists
  pub next : released ≡ released_count events
  pub few : released ≤ length events
  pub known : (id : ℕ) → IsReleased events id → id < released
  pub requests : (id : ℕ) (e : Entered) → unissued_at setup events id ≡ Some e → IsRequest e.bios
  pub fresh : (id : ℕ) → released ≤ id → map.get m.pending id ≡ None
  pub room : length tags ≡ setup.depth
  pub lists : length requeue_lists ≡ setup.hw
  pub seats : (tag : ℕ) → tag < length tags → seat_of (slice_index_or tags tag Free) ≡ seat_at events tag
  pub flown : (tag hw : ℕ) (w : Waiting) → slice_index_or tags tag Free ≡ InFlight hw w → InFlightAs setup events tag w
  pub reads : sum_by (flying Read) tags ≡ m.open_picks.reads
  pub writes : sum_by (flying Write) tags ≡ m.open_picks.writes
  pub queues : (tag : ℕ) → queue_of (slice_index_or tags tag Free) < setup.hw
