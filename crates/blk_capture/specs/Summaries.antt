-- A capture in numbers.
use Rattle.std.specs.Prelude.{ℕ, ◌≡◌, ◌≤◌, ◌<◌, ◌+◌, ◌-◌, ◌*◌, ◌/◌, ◌&&◌, not, cond, Bool, true, false, List, length, count_by, nat_le, nat_lt, slice_get, slice_index_or, is_some, Option, None, Some, IsPermutation}
use Rattle.std.specs.List.{filter_map}
use Rattle.std.specs.List.Sorted.{IsSorted}
use Rattle.std.specs.Ordering.{nat_cmp}
use Rattle.blk_bio.specs.declared.bio.Dir.{Dir}
use Rattle.blk_bio.specs.declared.bio.Dir.TheVariants.{Read, Write}
use Rattle.blk_capture.specs.Fates.{tally_of}
use Rattle.blk_capture.specs.declared.fates.Fate.{Fate}
use Rattle.blk_capture.specs.declared.record.Action.TheVariants.{BackMerge, FrontMerge}
use Rattle.blk_capture.specs.declared.record.Record.{Record}
use Rattle.blk_capture.specs.declared.requests.CapturedBio.{CapturedBio}
use Rattle.blk_capture.specs.declared.requests.CapturedRequest.{CapturedRequest}
use Rattle.blk_capture.specs.declared.summary.Percentiles.{Percentiles}
use Rattle.blk_capture.specs.declared.summary.Phase.TheVariants.{Tag, Scheduler, Device}
use Rattle.blk_capture.specs.declared.summary.Phase.{Phase}
use Rattle.blk_capture.specs.declared.summary.Summary.{Summary}

abbrev pub goes : Dir → Dir → Bool
goes Read Read = true
goes Read Write = false
goes Write Read = false
goes Write Write = true

-- a request of this direction that went out after its deadline
abbrev pub is_late_request : Dir → CapturedRequest → Bool
is_late_request d q = goes q.dir d && nat_lt q.deadline q.dispatched

abbrev pub is_dispatched : CapturedBio → Bool
is_dispatched b = is_some b.request

-- the time between two, 0 where the second isn't later, if it is known
abbrev pub between : ℕ → ℕ → Option ℕ
between from until = Some (until - from)

abbrev pub from_known : Option ℕ → ℕ → Option ℕ
from_known None until = None
from_known (Some from) until = between from until

abbrev pub until_known : ℕ → Option ℕ → Option ℕ
until_known from None = None
until_known from (Some until) = between from until

-- how long a phase of a request took
abbrev pub time_in : Phase → CapturedRequest → Option ℕ
time_in Tag q = between q.queued q.got
time_in Scheduler q = from_known q.inserted q.dispatched
time_in Device q = until_known q.dispatched q.completed

-- the nearest rank: these hundredths of n, rounded up
abbrev pub percent_rank : ℕ → ℕ → ℕ
percent_rank percent n = (percent * n + 99) / 100

-- the one at that rank of sorted numbers, counted from 1; None where there are none
abbrev pub at_percent : ℕ → List ℕ → Option ℕ
at_percent percent sorted = slice_get sorted (percent_rank percent (length sorted) - 1)

abbrev pub percentiles_of : List ℕ → Percentiles
percentiles_of sorted = record { count = length sorted; p50 = at_percent 50 sorted; p99 = at_percent 99 sorted; max = at_percent 100 sorted }

-- the percentiles of the numbers, put in their order
pub record ArePercentiles (values : List ℕ) (s : Percentiles) : Type 0 where
  pub sorted : List ℕ
  pub same : IsPermutation values sorted
  pub rising : IsSorted nat_cmp sorted
  pub are : s ≡ percentiles_of sorted

-- out by a time, and back by a time
abbrev pub out_by : ℕ → CapturedRequest → Bool
out_by time q = nat_le q.dispatched time

abbrev pub known_by : ℕ → Option ℕ → Bool
known_by time None = false
known_by time (Some t) = nat_le t time

abbrev pub back_by : ℕ → CapturedRequest → Bool
back_by time q = known_by time q.completed

-- how many are at the device at a time
abbrev pub in_flight_at : List CapturedRequest → ℕ → ℕ
in_flight_at requests time = count_by (λ q. out_by time q && not (back_by time q)) requests

-- how many are there when a request goes out: itself too, where it is back at that very time
abbrev pub in_flight_with : List CapturedRequest → CapturedRequest → ℕ
in_flight_with requests q = in_flight_at requests q.dispatched + cond (back_by q.dispatched q) 1 0

-- n are there when the request at place k goes out
pub record AreWith (requests : List CapturedRequest) (n k : ℕ) : Type 0 where
  pub in_list : k < length requests
  pub at : (d : CapturedRequest) → in_flight_with requests (slice_index_or requests k d) ≡ n

-- n is the most that are there when a request goes out, and 0 where there are no requests
pub record IsMostInFlight (requests : List CapturedRequest) (n : ℕ) : Type 0 where
  pub bound : (k : ℕ) (d : CapturedRequest) → k < length requests → in_flight_with requests (slice_index_or requests k d) ≤ n
  pub reached : 0 < n → (k : ℕ) × AreWith requests n k

-- how many records of a merge are of requests that are taken
abbrev pub all_merges : List Record → List Fate → ℕ
all_merges records fates = (tally_of BackMerge records fates).taken + (tally_of FrontMerge records fates).taken

-- a capture in numbers
pub record IsSummary (records : List Record) (requests : List CapturedRequest) (bios : List CapturedBio) (fates : List Fate) (s : Summary) : Type 0 where
  pub records_are : s.records ≡ length records
  pub bios_are : s.bios ≡ count_by is_dispatched bios
  pub requests_are : s.requests ≡ length requests
  pub merges_are : s.merges ≡ all_merges records fates
  pub late_reads_are : s.late_reads ≡ count_by (is_late_request Read) requests
  pub late_writes_are : s.late_writes ≡ count_by (is_late_request Write) requests
  pub tag_is : ArePercentiles (filter_map (time_in Tag) requests) s.tag
  pub scheduler_is : ArePercentiles (filter_map (time_in Scheduler) requests) s.scheduler
  pub device_is : ArePercentiles (filter_map (time_in Device) requests) s.device
  pub in_flight_is : IsMostInFlight requests s.in_flight
