-- The requests of a capture on their way into a scheduler, and their replay.
use Rattle.std.specs.Prelude.{ℕ, ◌≡◌, ◌↔◌, ◌<◌, ◌≤◌, ◌+◌, ◌-◌, List, All, length, count_by, map, min, max, nat_lt, slice_index, slice_index_or}
use Rattle.std.specs.List.Sorted.{IsPermutation, IsSortedByKey, IsStableByKey}
use Rattle.std.specs.Ordering.{nat_cmp}
use Rattle.edd_commands.specs.declared.Command.{Command}
use Rattle.blk_bio.specs.declared.bio.Dir.{Dir}
use Rattle.blk_bio.specs.declared.bio.Dir.TheVariants.{Read, Write}
use Rattle.blk_bio.specs.declared.bio.TheConstants.{MAX_END}
use Rattle.blk_bio.specs.Bios.{Bio}
use Rattle.blk_capture.specs.Counting.{AreInRounds}
use Rattle.blk_capture.specs.Requests.{times_of}
use Rattle.blk_capture.specs.declared.record.TheConstants.{MAX_TIME}
use Rattle.blk_capture.specs.declared.requests.CapturedRequest.{CapturedRequest}
use Rattle.blk_sched.specs.Policies.{Policy}
use Rattle.blk_replay.specs.declared.Arrived.{Arrived}
use Rattle.blk_replay.specs.declared.requests.DueBy.{DueBy}
use Rattle.blk_replay.specs.declared.requests.DueBy.TheVariants.{Deadline, Fifo}
use Rattle.blk_replay.specs.declared.requests.Entrant.{Entrant}
use Rattle.blk_replay.specs.Replay.{Standing, IsReplay}

-- these are the commands of requests that are counted in rounds
abbrev pub AreRoundCommands : List CapturedRequest → List Command → Type 0
AreRoundCommands requests commands = (rounds : List ℕ) × AreInRounds (map times_of requests) commands rounds

-- how many of the requests went out before a time
unfoldable pub went_before : List CapturedRequest → ℕ → ℕ
went_before requests time = count_by (λ q. nat_lt q.dispatched time) requests

-- the FIFO expiry of a direction
abbrev pub expire_by : ℕ → ℕ → Dir → ℕ
expire_by read write Read = read
expire_by read write Write = write

-- the round in which a request is due in a scheduler: by its deadline, or the first that goes out at its FIFO expiry or later
abbrev pub due_round : List CapturedRequest → CapturedRequest → ℕ → DueBy → ℕ
due_round requests q due Deadline = due
due_round requests q due (Fifo read write) = went_before requests (min (q.entry + expire_by read write q.dir) MAX_TIME) + 1

-- a request as one bio of its sectors, as far as a bio reaches
abbrev pub as_one_bio : ℕ → CapturedRequest → Bio
as_one_bio place q =
    let first = min q.first (MAX_END - 1) in
    record { id = record { submitter = 0; serial = place }; dir = q.dir; first = first; sectors = max (min q.sectors (MAX_END - first)) 1 }

-- the request at a place as it enters, whose command is c
abbrev pub arrived_of : List CapturedRequest → DueBy → ℕ → CapturedRequest → Command → Arrived
arrived_of requests by place q c = record { release = c.release; due = due_round requests q c.due by; bio = as_one_bio place q }

-- each by its place
pub record ArePlaces (requests : List CapturedRequest) (entrants : List Entrant) : Type 0 where
  pub each : length entrants ≡ length requests
  pub are : (k : ℕ) (e : Entrant) (q : CapturedRequest) → k < length requests → slice_index_or entrants k e ≡ record { place = k; released = (slice_index_or requests k q).released }

-- the same in the order of their releases, where those of one release stand as before
pub record AreByRelease (placed entrants : List Entrant) : Type 0 where
  pub same : IsPermutation placed entrants
  pub sorted : IsSortedByKey (λ e. e.released) nat_cmp entrants
  pub stable : IsStableByKey (λ e. e.released) nat_cmp placed entrants

-- as they enter: the request at an entrant's place, by its command
pub record AreArriving (requests : List CapturedRequest) (commands : List Command) (by : DueBy) (entrants : List Entrant) (arrived : List Arrived) : Type 0 where
  pub each : length arrived ≡ length entrants
  pub are : (k : ℕ) (a : Arrived) (e : Entrant) (q : CapturedRequest) (c : Command) → k < length entrants
      → slice_index_or arrived k a
      ≡ arrived_of requests by (slice_index_or entrants k e).place (slice_index_or requests (slice_index_or entrants k e).place q) (slice_index_or commands (slice_index_or entrants k e).place c)

-- no two have one place
abbrev pub AreApart : List Entrant → Type 0
AreApart entrants =
    (j k : ℕ) (d : Entrant) → j < length entrants → k < length entrants → (slice_index_or entrants j d).place ≡ (slice_index_or entrants k d).place → j ≡ k

-- each entrant's round stands at its request's place
pub record ArePut (entrants : List Entrant) (own rounds : List ℕ) : Type 0 where
  pub each : length rounds ≡ length entrants
  pub put : (k : ℕ) (d : Entrant) → k < length entrants → slice_index rounds (slice_index_or entrants k d).place ≡ slice_index own k

-- rounds of which there are n
abbrev pub AreRounds : ℕ → List ℕ → Type 0
AreRounds n rounds = All (λ r. (0 < r) × (r ≤ n)) rounds

-- when a round goes out: its dispatch
abbrev pub time_of_round : List CapturedRequest → ℕ → CapturedRequest → ℕ
time_of_round requests round d = (slice_index_or requests (round - 1) d).dispatched

-- each runs after its due round exactly where that goes out after its deadline by the clock
abbrev pub AreLateByTheClock : List CapturedRequest → List Command → List ℕ → Type 0
AreLateByTheClock requests commands rounds =
    (k : ℕ) (d : CapturedRequest) (e : Command) → k < length requests
    → ((slice_index_or commands k e).due < slice_index rounds k) ↔ ((slice_index_or requests k d).deadline < time_of_round requests (slice_index rounds k) d)

-- the requests, in the order in which they came in, are served by a scheduler that follows the policy, each in its round
pub record IsReplayOf (policy : Policy) (start : Standing) (requests : List CapturedRequest) (commands : List Command) (by : DueBy) (rounds : List ℕ) : Type 0 where
  pub placed : List Entrant
  pub are_placed : ArePlaces requests placed
  pub entrants : List Entrant
  pub by_release : AreByRelease placed entrants
  pub arrived : List Arrived
  pub are_arriving : AreArriving requests commands by entrants arrived
  pub own : List ℕ
  pub replayed : IsReplay policy start arrived own
  pub put : ArePut entrants own rounds
