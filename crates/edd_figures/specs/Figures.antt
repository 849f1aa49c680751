-- How late the latest command of a schedule is, and how late it had to be.
use Rattle.std.specs.Prelude.{ℕ, ◌≡◌, List, [], Option, None, Some, ℤ, pos, ◌-ℤ◌, ◌≤ℤ◌}
use Rattle.edd_commands.specs.declared.Command.{Command}
use Rattle.edd_commands.specs.declared.steps.Step.{Step}
use Rattle.edd_commands.specs.Schedule.{IsLegal, IsGreatestLateness, IsLeastLateness}
use Rattle.edd_check.specs.Window.{load_of, IsCrowded}
use Rattle.edd_oracle.specs.Priority.{IsEarliestDueFirst}
use Rattle.edd_oracle.specs.Plan.{IsLatestWindow}
use Rattle.edd_figures.specs.declared.lateness.Figures.{Figures}

-- by how many rounds the latest command was later than some command had to be
abbrev pub shortfall_of : ℤ → ℤ → ℤ
shortfall_of greatest least = greatest -ℤ least

-- the greatest lateness of the schedule, the least that a legal one of these commands has, their difference, and the window of the
-- latest command by earliest due first, which is crowded at the least
pub record AreFigures (commands : List Command) (rounds : List ℕ) (steps : List Step) (f : Figures) : Type 0 where
  pub greatest : IsGreatestLateness commands rounds f.greatest
  pub least : IsLeastLateness commands steps f.least
  pub shortfall : f.shortfall ≡ shortfall_of f.greatest f.least
  pub not_negative : pos 0 ≤ℤ shortfall_of f.greatest f.least
  pub crowded : IsCrowded commands steps f.least f.window
  pub load : f.load ≡ load_of commands f.window
  pub best : List ℕ
  pub legal : IsLegal commands best steps
  pub first : IsEarliestDueFirst commands best steps
  pub latest : IsLatestWindow commands best steps f.window

-- the figures of a schedule that has commands, and none of one that has none
abbrev pub HasFigures : List Command → List ℕ → List Step → Option Figures → Type 0
HasFigures commands rounds steps None = commands ≡ []
HasFigures commands rounds steps (Some f) = AreFigures commands rounds steps f

-- three of them by themselves, where there are figures
abbrev pub greatest_in : Option Figures → Option ℤ
greatest_in None = None
greatest_in (Some f) = Some f.greatest

abbrev pub least_in : Option Figures → Option ℤ
least_in None = None
least_in (Some f) = Some f.least

abbrev pub shortfall_in : Option Figures → Option ℤ
shortfall_in None = None
shortfall_in (Some f) = Some f.shortfall
