-- The judgement on a schedule of anyone's, and which schedules are refused.
use Rattle.std.specs.Prelude.{take, ℕ, List, Option}
use Rattle.edd_commands.specs.Order.{BreaksFirst, AreKept}
use Rattle.edd_check.specs.declared.CheckFault.{CheckFault}
use Rattle.edd_check.specs.declared.CheckFault.TheVariants.{Length, BeforeRelease, Memory, OverDepth, WrongLateness, NotCrowded}
use Rattle.edd_commands.specs.declared.Command.{Command}
use Rattle.edd_commands.specs.declared.steps.Step.{Step}
use Rattle.edd_check.specs.Rules.{round_rules, IsFirstEarly, IsLeastOverDeep}
use Rattle.edd_commands.specs.Schedule.{IsLegal}
use Rattle.edd_figures.specs.declared.lateness.Figures.{Figures}
use Rattle.edd_figures.specs.declared.missing.Counts.{Counts}
use Rattle.edd_figures.specs.declared.missing.Crowd.{Crowd}
use Rattle.edd_figures.specs.Figures.{HasFigures}
use Rattle.edd_figures.specs.Misses.{HasMisses, HasSpares}

-- why a schedule isn't judged: the first rule of its rounds that is broken, or running out of memory after the first two
abbrev pub IsRefusedSchedule : List Command → List ℕ → List Step → CheckFault → Type 0
IsRefusedSchedule commands rounds steps Length = ⊥
IsRefusedSchedule commands rounds steps (BeforeRelease id) = BreaksFirst (round_rules commands steps rounds) 1 (IsFirstEarly commands rounds id)
IsRefusedSchedule commands rounds steps Memory = AreKept (take 2 (round_rules commands steps rounds))
IsRefusedSchedule commands rounds steps (OverDepth x) = BreaksFirst (round_rules commands steps rounds) 2 (IsLeastOverDeep rounds steps x)
IsRefusedSchedule commands rounds steps (WrongLateness n) = ⊥
IsRefusedSchedule commands rounds steps (NotCrowded n) = ⊥

-- the judgement on a legal schedule: how many of its commands are late and how many had to be, and how late the latest is and had to be
pub record IsJudgement (commands : List Command) (rounds : List ℕ) (steps : List Step) (c : Counts) (windows : List Crowd) (f : Option Figures) : Type 0 where
  pub legal : IsLegal commands rounds steps
  pub misses : HasMisses commands rounds steps c windows
  pub spares : HasSpares commands rounds steps c.late c.spare
  pub figures : HasFigures commands rounds steps f
