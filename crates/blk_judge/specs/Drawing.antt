-- The picture of a schedule.
use Rattle.std.specs.Prelude.{ℕ, List, Option, None, Some, map, false}
use Rattle.std.specs.List.{zip}
use Rattle.answer.specs.Lines.{answer_lines}
use Rattle.edd_commands.specs.Schedule.{IsLegal}
use Rattle.edd_commands.specs.declared.Command.{Command}
use Rattle.edd_commands.specs.declared.steps.Step.{Step}
use Rattle.edd_figures.specs.Misses.{HasMisses, HasSpares}
use Rattle.edd_figures.specs.declared.missing.Counts.{Counts}
use Rattle.edd_figures.specs.declared.missing.Crowd.{Crowd}
use Rattle.edd_verdict.specs.declared.Verdict.{Verdict}
use Rattle.edd_verdict.specs.declared.Verdict.TheVariants.{Arrival, Spare, Full}
use Rattle.edd_verdict.specs.Verdicts.{AreVerdicts}
use Rattle.blk_lanes.specs.declared.bars.Bar.{Bar}
use Rattle.blk_lanes.specs.declared.bars.Span.{Span}
use Rattle.blk_lanes.specs.declared.bars.Mark.{Mark}
use Rattle.blk_lanes.specs.declared.bars.Mark.TheVariants as mark
use Rattle.blk_lanes.specs.declared.bars.Unit.TheVariants as unit
use Rattle.blk_lanes.specs.declared.bars.Way.TheVariants as way
use Rattle.blk_lanes.specs.Held.{IsDrawn}
use Rattle.blk_judge.specs.Answers.{counts_parts}

-- how a command of a verdict is marked; rounds alone don't tell whether it came too late or the device stalled
abbrev pub mark_of_verdict : Option Verdict → Mark
mark_of_verdict None = mark.OnTime
mark_of_verdict (Some Arrival) = mark.Gap
mark_of_verdict (Some Spare) = mark.Spare
mark_of_verdict (Some (Full w)) = mark.Full

-- a command, from its release to its round
abbrev pub command_bar : (Command × ℕ) × Option Verdict → Bar
command_bar p = record { id = p.0.0.id; way = way.Unknown; from = p.0.0.release; due = p.0.0.due; to = p.0.1; mark = mark_of_verdict p.1 }

abbrev pub window_span : Crowd → Span
window_span c = record { from = c.window.from; to = c.window.due; requests = c.commands; carries = c.carries; stall = false }

-- the picture of a legal schedule: its counts, its commands by their verdicts, and the windows that prove how many had to be late
pub record IsSchedulePicture (commands : List Command) (rounds : List ℕ) (steps : List Step) (text : List ℕ) : Type 0 where
  pub legal : IsLegal commands rounds steps
  pub counts : Counts
  pub windows : List Crowd
  pub misses : HasMisses commands rounds steps counts windows
  pub spares : HasSpares commands rounds steps counts.late counts.spare
  pub verdicts : List (Option Verdict)
  pub right : AreVerdicts commands rounds steps verdicts
  pub drawn : IsDrawn unit.Rounds (answer_lines (counts_parts counts)) (map command_bar (zip (zip commands rounds) verdicts)) (map window_span windows) text
