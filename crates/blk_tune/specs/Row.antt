-- What comes of a script under one setting, and under each of some.
use Rattle.std.specs.Prelude.{◌≡◌, ◌≤◌, ◌↔◌, ℕ, ℤ, pos, List, Some, All, map}
use Rattle.edd_commands.specs.declared.Command.{Command}
use Rattle.edd_commands.specs.declared.steps.Step.{Step}
use Rattle.edd_commands.specs.Schedule.{IsLegal, IsGreatestLateness, IsLowerBound}
use Rattle.edd_figures.specs.declared.missing.Crowd.{Crowd}
use Rattle.edd_figures.specs.Misses.{number_late}
use Rattle.blk_trace.specs.Traces.{Traced}
use Rattle.blk_trace.specs.Depths.{capacity_of}
use Rattle.blk_trace.specs.Meaning.{commands_of, rounds_of}
use Rattle.blk_text.specs.Script.{Scripted}
use Rattle.blk_report.specs.declared.spreading.Spreads.{Spreads}
use Rattle.edd_figures.specs.Figures.{shortfall_in}
use Rattle.blk_report.specs.Misses.{IsTallied}
use Rattle.blk_report.specs.Services.{services_of}
use Rattle.blk_report.specs.Shortfall.{IsReport}
use Rattle.blk_report.specs.Spread.{AreSpreads}
use Rattle.blk_schedulers.specs.declared.sched.Sched.{Sched}
use Rattle.blk_runs.specs.Runs.{IsTraceOfScript}
use Rattle.blk_tune.specs.declared.row.TrialRow.{TrialRow}

-- no legal schedule of the same commands has fewer of them late
abbrev pub HasFewestLate : List Command → List ℕ → List Step → Type 0
HasFewestLate commands rounds steps = (other : List ℕ) → IsLegal commands other steps → number_late commands rounds ≤ number_late commands other

-- there are commands, and no legal schedule of them is less late
abbrev pub IsLatestOfNone : List Command → List ℕ → List Step → Type 0
IsLatestOfNone commands rounds steps = (late : ℤ) × IsGreatestLateness commands rounds late × IsLowerBound commands steps late

-- the numbers of a trace: its report, the count of its misses, and of its reads' and writes' waits the 99th percentiles. Nothing is
-- avoidable just where no legal schedule of its commands has fewer late, and nothing is lost just where none is less late
pub record IsRowOfTrace (trace : Traced) (r : TrialRow) : Type 0 where
  pub is_report : IsReport trace.setup trace.events r.report
  pub windows : List Crowd
  pub is_tallied : IsTallied trace.setup trace.events r.tally windows
  pub spreads : Spreads
  pub are_spreads : AreSpreads (services_of trace.setup trace.events) spreads
  pub reads : r.wait_read ≡ spreads.wait.reads.p99
  pub writes : r.wait_write ≡ spreads.wait.writes.p99
  pub fewest : (r.tally.avoidable ≡ 0) ↔ HasFewestLate (commands_of trace.setup trace.events) (rounds_of trace.events) (capacity_of trace.setup trace.events)
  pub least : (shortfall_in r.report.figures ≡ Some (pos 0)) ↔ IsLatestOfNone (commands_of trace.setup trace.events) (rounds_of trace.events) (capacity_of trace.setup trace.events)

-- those of the trace that `sim` writes under the row's settings
pub record IsRow (script : Scripted) (r : TrialRow) : Type 0 where
  pub trace : Traced
  pub is_trace : IsTraceOfScript r.sched script trace
  pub is_row : IsRowOfTrace trace r

-- a row for each of these settings, in their order
abbrev pub AreRowsUnder : List Sched → Scripted → List TrialRow → Type 0
AreRowsUnder scheds script rows = (map (λ r. r.sched) rows ≡ scheds) × All (IsRow script) rows
