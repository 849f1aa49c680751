-- Requests of a capture that went out, and the bios that went with them.
use Rattle.std.specs.Prelude.{min, max, unwrap_or, ℕ, ◌≡◌, ◌≤◌, ◌<◌, ◌+◌, ◌-◌, ◌==◌, ◌↔◌, List, length, count_by, Bool, false, Option, Some, None, IfSome, slice_index, slice_index_or, All}
use Rattle.std.specs.List.Sorted.{IsNonDecreasingBy}
use Rattle.edd_commands.specs.declared.Command.{Command}
use Rattle.blk_capture.specs.declared.counting.TimedRequest.{TimedRequest}
use Rattle.blk_capture.specs.declared.record.Record.{Record}
use Rattle.blk_capture.specs.declared.record.TheConstants.{MAX_TIME}
use Rattle.blk_bio.specs.declared.bio.Dir.{Dir}
use Rattle.blk_bio.specs.declared.bio.Dir.TheVariants.{Read, Write}
use Rattle.blk_capture.specs.declared.requests.Entry.{Entry}
use Rattle.blk_capture.specs.declared.requests.Entry.TheVariants.{Insert, Queue}
use Rattle.blk_capture.specs.declared.requests.Options.{Options}
use Rattle.blk_capture.specs.declared.requests.CapturedRequest.{CapturedRequest}
use Rattle.blk_capture.specs.declared.requests.CapturedBio.{CapturedBio}
use Rattle.blk_capture.specs.declared.requests.CaptureFault.{CaptureFault}
use Rattle.blk_capture.specs.declared.requests.CaptureFault.TheVariants.{Order, Memory}

-- what of a request is counted in rounds
abbrev pub times_of : CapturedRequest → TimedRequest
times_of q = record { release = q.released; deadline = q.deadline; dispatch = q.dispatched }

-- when a request came in that was queued and inserted then
abbrev pub entry_by : Entry → ℕ → Option ℕ → ℕ
entry_by Insert queued inserted = unwrap_or inserted queued
entry_by Queue queued inserted = queued

-- when a request that came in at `entry` was released: by its last bio, which may have been merged into it later
abbrev pub released_by : ℕ → Option ℕ → ℕ
released_by entry None = entry
released_by entry (Some merged) = max entry merged

-- how long after it came in a request of a direction is due
abbrev pub expire_for : Options → Dir → ℕ
expire_for options Read = options.read_expire
expire_for options Write = options.write_expire

-- the sooner of two times
abbrev pub earlier_of : Option ℕ → ℕ → ℕ
earlier_of None time = time
earlier_of (Some earlier) time = min earlier time

-- the deadline of a request that came in at `entry`; `earlier` is that of a request merged into it
abbrev pub deadline_of : Options → Dir → ℕ → Option ℕ → ℕ
deadline_of options dir entry earlier = earlier_of earlier (min (entry + expire_for options dir) MAX_TIME)

-- it came in and was due as the options say, and was released by its last bio
pub record IsDue (options : Options) (q : CapturedRequest) : Type 0 where
  pub entered : q.entry ≡ entry_by options.entry q.queued q.inserted
  pub released : q.released ≡ released_by q.entry q.merged
  pub due : q.deadline ≡ deadline_of options q.dir q.entry q.earlier

-- in the order of their dispatches; none went out before its last bio came in, nor was completed before it went out
pub record AreTimed (requests : List CapturedRequest) : Type 0 where
  pub rising : IsNonDecreasingBy (λ q. q.dispatched) requests
  pub came_in : All (λ q. q.released ≤ q.dispatched) requests
  pub came_back : All (λ q. IfSome q.completed (λ t. q.dispatched ≤ t)) requests

-- the bio that each request was opened for is one of the bios, and went out with it
abbrev pub HaveBios : List CapturedRequest → List CapturedBio → Type 0
HaveBios requests bios =
    (k : ℕ) (d : CapturedRequest) (e : CapturedBio) → k < length requests → (slice_index_or bios (slice_index_or requests k d).bio e).request ≡ Some k

-- whether a bio went out with the request at place k
abbrev pub went_with : ℕ → Option ℕ → Bool
went_with k None = false
went_with k (Some j) = j == k

-- each request has as many bios as went out with it
abbrev pub AreTallied : List CapturedRequest → List CapturedBio → Type 0
AreTallied requests bios = (k : ℕ) (d : CapturedRequest) → k < length requests → (slice_index_or requests k d).bios ≡ count_by (λ b. went_with k b.request) bios

-- bios that went out with one of n requests, or with none
abbrev pub AreGone : ℕ → List CapturedBio → Type 0
AreGone n bios = All (λ b. IfSome b.request (λ k. k < n)) bios

-- no record has an earlier time than the one before it, among the first n
abbrev pub AreInOrder : List Record → ℕ → Type 0
AreInOrder records n = (k : ℕ) (d : Record) → k + 1 < n → (slice_index_or records k d).time ≤ (slice_index_or records (k + 1) d).time

-- the record at place p is the first that has an earlier time than the one before it
pub record IsFirstFall (records : List Record) (p : ℕ) : Type 0 where
  pub in_list : p < length records
  pub some : 0 < p
  pub before : AreInOrder records p
  pub falls : (d : Record) → (slice_index_or records p d).time < (slice_index_or records (p - 1) d).time

-- each runs after its due round exactly where it went out after its deadline by the clock
abbrev pub AgreeOnLateness : List CapturedRequest → List Command → List ℕ → Type 0
AgreeOnLateness requests commands rounds =
    (k : ℕ) (d : CapturedRequest) (e : Command) → k < length requests
    → ((slice_index_or commands k e).due < slice_index rounds k) ↔ ((slice_index_or requests k d).deadline < (slice_index_or requests k d).dispatched)

-- why a capture is refused; Order comes first
abbrev pub IsCaptureFault : List Record → CaptureFault → Type 0
IsCaptureFault records (Order p) = IsFirstFall records p
IsCaptureFault records Memory = AreInOrder records (length records)
