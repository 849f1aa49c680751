-- A capture that is put in numbers as it is read.
use Rattle.std.specs.Prelude.{ℕ, ◌≡◌, ◌≤◌, ◌++◌, ◌∷◌, [], List, length}
use Rattle.blk_capture.specs.Requests.{AreInOrder}
use Rattle.blk_capture.specs.Running.{IsSteady, HasTaken}
use Rattle.blk_capture.specs.Running as run
use Rattle.blk_capture.specs.Summaries.{IsSummary}
use Rattle.blk_capture.specs.declared.fates.Fate.{Fate}
use Rattle.blk_capture.specs.declared.record.Record.{Record}
use Rattle.blk_capture.specs.declared.requests.CapturedBio.{CapturedBio}
use Rattle.blk_capture.specs.declared.requests.CapturedRequest.{CapturedRequest}
use Rattle.blk_capture.specs.declared.requests.Options.{Options}
use Rattle.blk_capture_text.specs.Counts.{records_counted}
use Rattle.blk_capture_text.specs.Imports.{IsImport, first_time}
use Rattle.blk_capture_text.specs.SummaryText.{counts_of}
use Rattle.blk_capture_text.specs.declared.importing.ImportAsked.{ImportAsked}
use Rattle.blk_capture_text.specs.declared.streaming.Streamed.{Streamed}
use Rattle.blk_capture_text.specs.declared.streaming.StreamedSummary.{StreamedSummary}

-- the time of the last record, how many there were, and how requests are due
abbrev pub stream_time : Streamed → ℕ
stream_time s = run.run_time s.running

abbrev pub stream_count : Streamed → ℕ
stream_count s = run.run_count s.running

abbrev pub stream_options : Streamed → Options
stream_options s = run.run_options s.running

-- whatever the records were
pub record IsAtWork (s : Streamed) : Type 0 where
  pub ready : IsSteady s.running
  pub each : s.counts.records ≡ stream_count s
  pub still : s.counts.still ≤ s.counts.records

-- no record that may stand behind these is earlier than this
abbrev pub MayFollow : List Record → ℕ → Type 0
MayFollow records time = (r : Record) → AreInOrder (records ++ r ∷ []) (length (records ++ r ∷ [])) → time ≤ r.time

-- these records were taken in
pub record HasStreamed (records : List Record) (s : Streamed) : Type 0 where
  pub fates : List Fate
  pub taken : HasTaken records fates s.running
  pub unused : s.unused ≡ counts_of fates
  pub counts : s.counts ≡ records_counted records
  pub first : s.first ≡ first_time records
  pub next : MayFollow records (stream_time s)

-- the capture in numbers, of those that are asked for
pub record IsStreamed (records : List Record) (asked : ImportAsked) (s : StreamedSummary) : Type 0 where
  pub requests : List CapturedRequest
  pub bios : List CapturedBio
  pub fates : List Fate
  pub absorbed : ℕ
  pub is_import : IsImport records asked requests bios fates absorbed s.left_out
  pub is_summary : IsSummary records requests bios fates s.summary
  pub unused : s.unused ≡ counts_of fates
  pub counts : s.counts ≡ records_counted records
