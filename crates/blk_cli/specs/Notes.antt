-- What is said beside what is written of a capture. Which words, the cases say: here stands when a line is said.
use Rattle.std.specs.Prelude.{ℕ, ◌≡◌, ◌≢◌, ◌/◌, ◌++◌, Bool, true, false, nat_lt, List, [], length, Option, None, Some, is_some}
use Rattle.std.specs.List.{filter_map}
use Rattle.blk_capture.specs.Summaries.{time_in, ArePercentiles}
use Rattle.blk_capture.specs.declared.record.Record.{Record}
use Rattle.blk_capture.specs.declared.requests.CapturedRequest.{CapturedRequest}
use Rattle.blk_capture.specs.declared.summary.Phase.TheVariants.{Device}
use Rattle.blk_capture.specs.declared.summary.Summary.{Summary}
use Rattle.blk_capture_text.specs.Counts.{records_counted}
use Rattle.blk_capture_text.specs.Doubts.{is_still, has_nothing_whole}
use Rattle.blk_capture_text.specs.declared.counts.RecordCounts.{RecordCounts}
use Rattle.blk_capture_text.specs.declared.source.Printed.{Printed}

-- a line is said just where there is a reason
abbrev pub IsToldIf : Bool → List ℕ → Type 0
IsToldIf true told = told ≢ []
IsToldIf false told = told ≡ []

-- lines of a recorder say that events were lost
abbrev pub has_losses : Option Printed → Bool
has_losses None = false
has_losses (Some p) = nat_lt 0 p.losses

-- who printed a capture, that events were lost, and that times stand still, one after another
pub record IsSourceTold (p : Option Printed) (records : List Record) (told : List ℕ) : Type 0 where
  pub recorder : List ℕ
  pub losses : List ℕ
  pub still : List ℕ
  pub of_recorder : IsToldIf (is_some p) recorder
  pub of_losses : IsToldIf (has_losses p) losses
  pub of_times : IsToldIf (is_still records) still
  pub all : told ≡ (recorder ++ losses) ++ still

-- more than a hundredth of the records
abbrev pub is_much : ℕ → ℕ → Bool
is_much n records = nat_lt (records / 100) n

-- more requests in flight than the device takes, many records unmatched, and no request that is known from its entry to its completion
pub record IsDoubtTold (records : List Record) (requests : List CapturedRequest) (most tags unmatched : ℕ) (told : List ℕ) : Type 0 where
  pub crowd : List ℕ
  pub much : List ℕ
  pub nothing : List ℕ
  pub of_flight : IsToldIf (nat_lt tags most) crowd
  pub of_unmatched : IsToldIf (is_much unmatched (length records)) much
  pub of_requests : IsToldIf (has_nothing_whole records requests) nothing
  pub all : told ≡ (crowd ++ much) ++ nothing

-- the same of the records of which this is known
abbrev pub SaysSource : Option Printed → RecordCounts → List ℕ → Type 0
SaysSource p counts told = (rs : List Record) → counts ≡ records_counted rs → IsSourceTold p rs told

abbrev pub SaysDoubt : RecordCounts → Summary → ℕ → ℕ → List ℕ → Type 0
SaysDoubt counts s tags unmatched told =
    (rs : List Record) (qs : List CapturedRequest) → counts ≡ records_counted rs → ArePercentiles (filter_map (time_in Device) qs) s.device → IsDoubtTold rs qs s.in_flight tags unmatched told
