-- What is said about a schedule, and why nothing is.
use Rattle.std.specs.Prelude.{◌≡◌, ◌==◌, ⊤, ℕ, Bool, true, false, List, length, Option, is_some}
use Rattle.answer.specs.Lines.{answer_lines}
use Rattle.edd_commands.specs.Capacity.{fixed}
use Rattle.edd_figures.specs.declared.lateness.Figures.{Figures}
use Rattle.edd_figures.specs.declared.missing.Counts.{Counts}
use Rattle.edd_figures.specs.declared.missing.Crowd.{Crowd}
use Rattle.blk_judge.specs.Answers.{judged_parts, missed_parts}
use Rattle.blk_judge.specs.declared.missing.Miss.{Miss}
use Rattle.blk_judge.specs.Judged.{IsRefusedSchedule, IsJudgement}
use Rattle.blk_judge.specs.Late.{AreMissed}
use Rattle.blk_records.specs.Schedule.{ScheduleView}
use Rattle.blk_cli.specs.Said.{Said}
use Rattle.blk_cli.specs.declared.failure.Failure.{Failure}
use Rattle.blk_cli.specs.declared.failure.Failure.TheVariants as failure

-- what is said about a schedule as a whole, under its depth in every round
pub record IsWholeText (s : ScheduleView) (text : List ℕ) : Type 0 where
  pub counts : Counts
  pub windows : List Crowd
  pub figures : Option Figures
  pub judged : IsJudgement s.commands s.rounds (fixed s.depth) counts windows figures
  pub is_text : text ≡ answer_lines (judged_parts counts figures windows)

-- and of each of its late commands
pub record IsEachText (s : ScheduleView) (text : List ℕ) : Type 0 where
  pub misses : List Miss
  pub missed : AreMissed s.commands s.rounds (fixed s.depth) misses
  pub is_text : text ≡ answer_lines (missed_parts misses)

-- the one that is asked for
abbrev pub IsJudgedText : Bool → ScheduleView → List ℕ → Type 0
IsJudgedText false s text = IsWholeText s text
IsJudgedText true s text = IsEachText s text

-- that a schedule has no commands is told beside that
abbrev pub has_no_commands : ScheduleView → Bool
has_no_commands s = length s.commands == 0

abbrev pub TellsEmpty : ScheduleView → Said → Type 0
TellsEmpty s said = (is_some said.note ≡ has_no_commands s) × (said.good ≡ true)

-- the schedule isn't legal, or memory ran out
abbrev pub IsJudgeFailure : ScheduleView → Failure → Type 0
IsJudgeFailure s (failure.Check fault) = IsRefusedSchedule s.commands s.rounds (fixed s.depth) fault
IsJudgeFailure s failure.Memory = ⊤
IsJudgeFailure s f = ⊥
