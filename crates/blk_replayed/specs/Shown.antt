-- A replay as a schedule, and as a table of its requests.
use Rattle.std.specs.Prelude.{ℕ, ◌≡◌, ◌<◌, ◌-◌, List, length, slice_index, slice_index_or}
use Rattle.edd_commands.specs.Capacity.{fixed}
use Rattle.edd_commands.specs.Schedule.{IsLegal}
use Rattle.blk_capture.specs.Tables.{AreRequestRows}
use Rattle.blk_capture.specs.declared.requests.CapturedRequest.{CapturedRequest}
use Rattle.blk_capture.specs.declared.table.RequestRow.{RequestRow}
use Rattle.blk_capture_text.specs.TableText.{table_lines}
use Rattle.blk_records.specs.Schedule.{ScheduleView, IsScheduleView, schedule_rows}
use Rattle.blk_records.specs.Texts.{rows_text}
use Rattle.blk_schedulers.specs.declared.plans.Plan.{Plan}
use Rattle.blk_replay.specs.Requests.{AreRoundCommands, AreLateByTheClock, time_of_round}
use Rattle.blk_replayed.specs.declared.row.Chooser.TheVariants.{Replay}
use Rattle.blk_replayed.specs.Rows.{IsReplayed, IsBestUnderEarliest}

-- the schedule of a replay: of just the commands of an import, a round each, legal at depth 1, late just where by the clock, and under earliest the
-- best that there is
pub record IsReplaySchedule (p : Plan) (requests : List CapturedRequest) (s : ScheduleView) : Type 0 where
  pub depth : s.depth ≡ 1
  pub ran : IsScheduleView s
  pub counted : AreRoundCommands requests s.commands
  pub replayed : IsReplayed p requests s.commands s.rounds
  pub legal : IsLegal s.commands s.rounds (fixed 1)
  pub alike : AreLateByTheClock requests s.commands s.rounds
  pub best : IsBestUnderEarliest (Replay p) s.commands s.rounds

abbrev pub IsReplayScheduleText : Plan → List CapturedRequest → List ℕ → Type 0
IsReplayScheduleText p requests text = (s : ScheduleView) × IsReplaySchedule p requests s × (text ≡ rows_text (schedule_rows s))

-- a request that goes out at another time, and requests of which each goes out with the dispatch of its round
abbrev pub moved_to : ℕ → CapturedRequest → CapturedRequest
moved_to time q = record q { dispatched = time }

pub record AreMoved (requests : List CapturedRequest) (rounds : List ℕ) (moved : List CapturedRequest) : Type 0 where
  pub each : length moved ≡ length requests
  pub are : (k : ℕ) (d e : CapturedRequest) → k < length requests
      → slice_index_or moved k e ≡ moved_to (time_of_round requests (slice_index rounds k) d) (slice_index_or requests k d)

-- their table, with times from a beginning on
pub record IsReplayTableIn (begin : ℕ) (requests : List CapturedRequest) (rounds : List ℕ) (text : List ℕ) : Type 0 where
  pub moved : List CapturedRequest
  pub are_moved : AreMoved requests rounds moved
  pub rows : List RequestRow
  pub are_rows : AreRequestRows begin moved rows
  pub is_text : text ≡ table_lines rows

abbrev pub IsReplayTableText : Plan → ℕ → List CapturedRequest → List ℕ → Type 0
IsReplayTableText p begin requests text = (s : ScheduleView) × IsReplaySchedule p requests s × IsReplayTableIn begin requests s.rounds text
