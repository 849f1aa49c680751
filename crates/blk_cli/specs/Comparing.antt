-- The schedulers beside one another over a script, and what is written of a script.
use Rattle.std.specs.Prelude.{◌≡◌, ◌∷◌, ⊤, ℕ, List, [], map}
use Rattle.answer.specs.declared.answer.Part.{Part}
use Rattle.blk_trace.specs.Traces.{Traced}
use Rattle.blk_text.specs.Script.{Scripted}
use Rattle.blk_report.specs.declared.figures.Report.{Report}
use Rattle.blk_report.specs.Shortfall.{IsReport}
use Rattle.blk_report.specs.Table.{IsTable}
use Rattle.blk_args.specs.declared.inputs.Running.{Running}
use Rattle.blk_args.specs.declared.inputs.Running.TheVariants as running
use Rattle.blk_schedulers.specs.declared.form.Form.{Form}
use Rattle.blk_runs.specs.Runs.{IsTraceOfScript}
use Rattle.blk_runs.specs.Firsts.{AreUnrun}
use Rattle.blk_schedulers.specs.declared.sched.ComparedScheds.{ComparedScheds}
use Rattle.blk_schedulers.specs.declared.sched.Sched.{Sched}
use Rattle.blk_schedulers.specs.Scheds.{name_of, in_turn}
use Rattle.blk_cli.specs.declared.failure.Failure.{Failure}
use Rattle.blk_cli.specs.declared.failure.Failure.TheVariants as failure
use Rattle.blk_cli.specs.Said.{Said, IsAlone}
use Rattle.blk_cli.specs.Forms.{written_in}
use Rattle.blk_cli.specs.Scripts.{IsSimText, FailsToRun}
use Rattle.blk_cli.specs.Unflushed.{TellsPlugs}

-- the report of the trace of the script under a scheduler
pub record IsReportUnder (s : Sched) (script : Scripted) (report : Report) : Type 0 where
  pub trace : Traced
  pub is_trace : IsTraceOfScript s script trace
  pub is_report : IsReport trace.setup trace.events report

-- what comes of the script under each of them, in turn: so the reports, and the traces
unfoldable pub AreUnder : {X : Type 0} → (Sched → Scripted → X → Type 0) → List Sched → Scripted → List X → Type 0
AreUnder Comes [] script [] = ⊤
AreUnder Comes [] script (x ∷ xs) = ⊥
AreUnder Comes (s ∷ ss) script [] = ⊥
AreUnder Comes (s ∷ ss) script (x ∷ xs) = Comes s script x × AreUnder Comes ss script xs

abbrev pub AreReports : List Sched → Scripted → List Report → Type 0
AreReports ss script rs = AreUnder IsReportUnder ss script rs

abbrev pub AreTraces : List Sched → Scripted → List Traced → Type 0
AreTraces ss script ts = AreUnder IsTraceOfScript ss script ts

-- what `compare` writes: the table of these reports, each under its scheduler's name
pub record IsComparedText (l : ComparedScheds) (f : Form) (script : Scripted) (text : List ℕ) : Type 0 where
  pub reports : List Report
  pub are_reports : AreReports (in_turn l) script reports
  pub told : List Part
  pub is_table : IsTable (map name_of (in_turn l)) reports told
  pub is_text : text ≡ written_in f told

-- what `picture --script` draws: these traces
abbrev pub AreDrawn : ComparedScheds → Scripted → Type 0
AreDrawn l script = (traces : List Traced) × AreTraces (in_turn l) script traces

-- why a script is not compared
abbrev pub IsCompareFailure : List Sched → Scripted → Failure → Type 0
IsCompareFailure scheds script (failure.Run f) = AreUnrun scheds script f
IsCompareFailure scheds script failure.Memory = ⊤
IsCompareFailure scheds script f = ⊥

-- what is written of a script, and why nothing is
abbrev pub IsRunText : Running → Scripted → List ℕ → Type 0
IsRunText (running.One s) script text = IsSimText s script text
IsRunText (running.Each l f) script text = IsComparedText l f script text
IsRunText (running.Drawn l) script text = AreDrawn l script

-- what is said beside it: of what is drawn, bios that stay in their plugs
abbrev pub TellsRun : Running → Scripted → Said → Type 0
TellsRun (running.Drawn l) script s = TellsPlugs script s
TellsRun r script s = IsAlone s

abbrev pub HasNoRunText : Running → Scripted → Failure → Type 0
HasNoRunText (running.One s) script f = FailsToRun s script f
HasNoRunText (running.Each l o) script f = IsCompareFailure (in_turn l) script f
HasNoRunText (running.Drawn l) script f = IsCompareFailure (in_turn l) script f
