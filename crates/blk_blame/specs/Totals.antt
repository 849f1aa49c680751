-- A capture as a whole.
use Rattle.std.specs.Prelude.{ℕ, ◌≡◌, ◌≤◌, ◌↔◌, ◌-◌, List, [], map, length, count_by, slice_get, Option, Some, None, IsNone, IfSome, All}
use Rattle.std.specs.List.{Contains}
use Rattle.std.specs.Option.{option_map_or}
use Rattle.blk_bio.specs.declared.bio.Dir.TheVariants.{Read, Write}
use Rattle.blk_capture.specs.Summaries.{is_late_request, ArePercentiles}
use Rattle.blk_capture.specs.declared.requests.CapturedRequest.{CapturedRequest}
use Rattle.blk_blame.specs.Clock.{overruns_of}
use Rattle.blk_blame.specs.Stages.{stage_share}
use Rattle.blk_blame.specs.Waited.{waited_of}
use Rattle.blk_blame.specs.declared.totals.Totals.{Totals}

-- the least of some times
pub record IsLeastOf (times : List ℕ) (t : ℕ) : Type 0 where
  pub least : All (λ e. t ≤ e) times
  pub in_them : Contains times t

-- when the first request came in, where there are some
pub record IsFirstEntry (requests : List CapturedRequest) (first : Option ℕ) : Type 0 where
  pub none : IsNone first ↔ (map (λ q. q.entry) requests ≡ [])
  pub some : IfSome first (IsLeastOf (map (λ q. q.entry) requests))

-- from then to the last dispatch
abbrev pub span_after : Option ℕ → List CapturedRequest → ℕ
span_after None requests = 0
span_after (Some t) requests = option_map_or (λ q. q.dispatched - t) (slice_get requests (length requests - 1)) 0

-- how many requests, how long, in which share of that at least one waited, and how many reads and writes were late by how much
pub record AreTotals (requests : List CapturedRequest) (t : Totals) : Type 0 where
  pub requests_are : t.requests ≡ length requests
  pub first : Option ℕ
  pub is_first : IsFirstEntry requests first
  pub span_is : t.span ≡ span_after first requests
  pub waited_is : t.waited ≡ stage_share (waited_of requests) t.span
  pub late_reads_are : t.late_reads ≡ count_by (is_late_request Read) requests
  pub late_writes_are : t.late_writes ≡ count_by (is_late_request Write) requests
  pub overrun_is : ArePercentiles (overruns_of requests) t.overrun
