-- What is shown of an import.
use Rattle.std.specs.Prelude.{ℕ, ◌≡◌, List, map}
use Rattle.answer.specs.declared.answer.Part.{Part}
use Rattle.edd_commands.specs.Capacity.{fixed}
use Rattle.edd_commands.specs.Schedule.{IsLegal}
use Rattle.blk_capture.specs.Counting.{AreInRounds}
use Rattle.blk_capture.specs.Requests.{AgreeOnLateness, times_of}
use Rattle.blk_capture.specs.Summaries.{IsSummary}
use Rattle.blk_capture.specs.Tables.{AreRequestRows}
use Rattle.blk_capture.specs.declared.fates.Fate.{Fate}
use Rattle.blk_capture.specs.declared.record.Record.{Record}
use Rattle.blk_capture.specs.declared.requests.CapturedBio.{CapturedBio}
use Rattle.blk_capture.specs.declared.requests.CapturedRequest.{CapturedRequest}
use Rattle.blk_capture.specs.declared.summary.Summary.{Summary}
use Rattle.blk_capture.specs.declared.table.RequestRow.{RequestRow}
use Rattle.blk_records.specs.Schedule.{ScheduleView, IsScheduleView, schedule_rows}
use Rattle.blk_records.specs.Texts.{rows_text}
use Rattle.blk_capture_text.specs.Imports.{first_time}
use Rattle.blk_capture_text.specs.TableText.{table_lines}
use Rattle.blk_capture_text.specs.SummaryText.{counts_of, summary_parts}
use Rattle.blk_capture_text.specs.declared.shown.ShownImport.{ShownImport}
use Rattle.blk_capture_text.specs.declared.shown.ShownImport.TheVariants as shown

-- the schedule of requests: a command a dispatch, legal at depth 1, late just where they were by the clock
pub record IsScheduleOf (requests : List CapturedRequest) (s : ScheduleView) : Type 0 where
  pub depth : s.depth ≡ 1
  pub ran : IsScheduleView s
  pub counted : AreInRounds (map times_of requests) s.commands s.rounds
  pub legal : IsLegal s.commands s.rounds (fixed 1)
  pub late : AgreeOnLateness requests s.commands s.rounds

abbrev pub IsScheduleText : List CapturedRequest → List ℕ → Type 0
IsScheduleText requests text = (s : ScheduleView) × IsScheduleOf requests s × (text ≡ rows_text (schedule_rows s))

-- the table of requests, with times from the first record on
abbrev pub IsTableText : List Record → List CapturedRequest → List ℕ → Type 0
IsTableText records requests text = (rows : List RequestRow) × AreRequestRows (first_time records) requests rows × (text ≡ table_lines rows)

abbrev pub IsShown : ShownImport → List Record → List CapturedRequest → List ℕ → Type 0
IsShown shown.Schedule records requests text = IsScheduleText requests text
IsShown shown.Table records requests text = IsTableText records requests text

-- the capture in numbers
abbrev pub IsSummaryAnswer : List Record → List CapturedRequest → List CapturedBio → List Fate → ℕ → List Part → Type 0
IsSummaryAnswer records requests bios fates left_out parts = (s : Summary) × IsSummary records requests bios fates s × (parts ≡ summary_parts s left_out (counts_of fates))
