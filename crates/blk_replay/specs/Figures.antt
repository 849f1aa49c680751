-- What came of requests by the clock.
use Rattle.std.specs.Prelude.{ℕ, ◌≡◌, ◌<◌, ◌-◌, ◌&&◌, Bool, List, length, count_by, map, max, fold, nat_lt, slice_index, slice_index_or}
use Rattle.std.specs.List.{filter}
use Rattle.blk_bio.specs.declared.bio.Dir.{Dir}
use Rattle.blk_bio.specs.declared.bio.Dir.TheVariants.{Read, Write}
use Rattle.blk_capture.specs.Summaries.{ArePercentiles, goes}
use Rattle.blk_capture.specs.declared.requests.CapturedRequest.{CapturedRequest}
use Rattle.blk_replay.specs.declared.figures.Outcome.{Outcome}
use Rattle.blk_replay.specs.declared.figures.ClockFigures.{ClockFigures}
use Rattle.blk_replay.specs.Requests.{time_of_round}

-- of a request that went out at a time
abbrev pub outcome_of : CapturedRequest → ℕ → Outcome
outcome_of q time = record { dir = q.dir; wait = time - q.entry; late_by = time - q.deadline }

-- of each request, which went out with the dispatch of its round
pub record AreOutcomes (requests : List CapturedRequest) (rounds : List ℕ) (outcomes : List Outcome) : Type 0 where
  pub each : length outcomes ≡ length requests
  pub are : (k : ℕ) (e : Outcome) (d : CapturedRequest) → k < length requests
      → slice_index_or outcomes k e ≡ outcome_of (slice_index_or requests k d) (time_of_round requests (slice_index rounds k) d)

-- one of a direction that was late; how late the latest was; the waits of a direction
abbrev pub went_late : Dir → Outcome → Bool
went_late dir o = goes o.dir dir && nat_lt 0 o.late_by

abbrev pub greatest_of : List Outcome → ℕ
greatest_of outcomes = fold (λ n o. max o.late_by n) 0 outcomes

abbrev pub waits_by_clock : Dir → List Outcome → List ℕ
waits_by_clock dir outcomes = map (λ o. o.wait) (filter (λ o. goes o.dir dir) outcomes)

-- the figures of requests that went out in these rounds
pub record AreClockFigures (requests : List CapturedRequest) (rounds : List ℕ) (f : ClockFigures) : Type 0 where
  pub outcomes : List Outcome
  pub are : AreOutcomes requests rounds outcomes
  pub late_reads : f.late_reads ≡ count_by (went_late Read) outcomes
  pub late_writes : f.late_writes ≡ count_by (went_late Write) outcomes
  pub greatest : f.greatest ≡ greatest_of outcomes
  pub reads : ArePercentiles (waits_by_clock Read outcomes) f.reads
  pub writes : ArePercentiles (waits_by_clock Write outcomes) f.writes
