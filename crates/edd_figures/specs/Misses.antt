-- How many commands a schedule has late, and how many have to be.
use Rattle.std.specs.Prelude.{ℕ, ◌≡◌, ◌≤◌, ◌+◌, List, Option, length, map, count_by, nat_lt, zip}
use Rattle.edd_commands.specs.declared.Command.{Command}
use Rattle.edd_check.specs.declared.Window.{Window}
use Rattle.edd_commands.specs.declared.steps.Step.{Step}
use Rattle.edd_commands.specs.Schedule.{IsLegal}
use Rattle.edd_check.specs.OnTime.{inside_of, carried_in, bound_of, IsCover}
use Rattle.edd_oracle.specs.OnTime.{IsOnTimeFirst, IsPassedCover}
use Rattle.edd_verdict.specs.declared.Verdict.{Verdict}
use Rattle.edd_verdict.specs.Verdicts.{AreVerdicts, arrivals_in, fulls_in, spares_in}
use Rattle.edd_figures.specs.declared.missing.Counts.{Counts}
use Rattle.edd_figures.specs.declared.missing.Crowd.{Crowd}

-- how many commands a schedule has after they are due
unfoldable pub number_late : List Command → List ℕ → ℕ
number_late commands rounds = count_by (λ p. nat_lt p.0.due p.1) (zip commands rounds)

-- some legal schedule has n commands late, and none has fewer
pub record IsLeastLate (commands : List Command) (steps : List Step) (n : ℕ) : Type 0 where
  pub schedule : List ℕ
  pub legal : IsLegal commands schedule steps
  pub reached : number_late commands schedule ≡ n
  pub least : (rounds : List ℕ) → IsLegal commands rounds steps → n ≤ number_late commands rounds

-- what is asked of the rounds of a window: the commands that lie in it, and what they carry
abbrev pub crowd_of : List Command → List Step → Window → Crowd
crowd_of commands steps w = record { window = w; commands = inside_of commands w; carries = carried_in steps w }

-- how many commands there are, how many of them the schedule has late, the fewest that any has late, how many more these are, and
-- the windows of those that earliest due first passes over: disjoint, and their bound on what is on time leaves `unavoidable` late
pub record AreMisses (commands : List Command) (rounds : List ℕ) (steps : List Step) (count late unavoidable avoidable : ℕ) (windows : List Crowd) : Type 0 where
  pub count_is : count ≡ length commands
  pub late_is : late ≡ number_late commands rounds
  pub least : IsLeastLate commands steps unavoidable
  pub rest : unavoidable + avoidable ≡ late
  pub cover : List Window
  pub disjoint : IsCover cover
  pub best : List ℕ
  pub legal : IsLegal commands best steps
  pub first : IsOnTimeFirst commands best steps
  pub passed : IsPassedCover commands best steps cover
  pub windows_are : windows ≡ map (crowd_of commands steps) cover
  pub bound : bound_of commands steps cover + unavoidable ≡ length commands

-- the same of counts
abbrev pub HasMisses : List Command → List ℕ → List Step → Counts → List Crowd → Type 0
HasMisses commands rounds steps c windows =
    AreMisses commands rounds steps c.commands c.late c.unavoidable c.avoidable windows

-- `spare` of the late ones were spare; with those that were late on arrival and the full ones they are all that were late
pub record HasSpares (commands : List Command) (rounds : List ℕ) (steps : List Step) (late spare : ℕ) : Type 0 where
  pub verdicts : List (Option Verdict)
  pub are_verdicts : AreVerdicts commands rounds steps verdicts
  pub spares : spare ≡ spares_in verdicts
  pub kinds : late ≡ arrivals_in verdicts + fulls_in verdicts + spare
