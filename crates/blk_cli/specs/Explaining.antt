-- What is found in a text of any form, and why nothing is. Which words tell it, the cases say.
use Rattle.std.specs.Prelude.{◌≡◌, ⊤, ℕ, Bool, false, List, Option, None, Some, IfSome, is_some, not}
use Rattle.blk_explain.specs.Explained.{IsExplained, form_without_fault}
use Rattle.blk_explain.specs.Findings.{rows_of}
use Rattle.blk_explain.specs.declared.details.Detail.{Detail}
use Rattle.blk_explain.specs.declared.findings.Finding.{Finding}
use Rattle.blk_explain.specs.declared.forms.TextForm.{TextForm}
use Rattle.blk_explain.specs.declared.forms.TextForm.TheVariants as form
use Rattle.blk_explain.specs.Printed.{AreLinesExplained}
use Rattle.blk_records.specs.Reads.{IsOutside}
use Rattle.blk_records.specs.Sources.{Row}
use Rattle.blk_text.specs.Script.{Scripted, SpellsScript}
use Rattle.blk_trace.specs.Traces.{Traced}
use Rattle.blk_schedulers.specs.declared.rows.SchedKind.TheVariants as sched_kind
use Rattle.blk_schedulers.specs.declared.sched.Sched.{Sched}
use Rattle.blk_sim.specs.declared.refusal.SimFault.{SimFault}
use Rattle.blk_runs.specs.Runs.{RunsUnder, IsRefusedUnder}
use Rattle.blk_capture_text.specs.Source.{form_taken}
use Rattle.blk_recorders.specs.declared.detect.CaptureForm.{CaptureForm}
use Rattle.blk_recorders.specs.declared.detect.CaptureForm.TheVariants as capture_form
use Rattle.blk_recorders.specs.declared.fault.LineFault.{LineFault}
use Rattle.blk_recorders.specs.declared.recorder.Recorder.{Recorder}
use Rattle.blk_cli.specs.Said.{Said}
use Rattle.blk_cli.specs.declared.failure.Failure.{Failure}
use Rattle.blk_cli.specs.declared.failure.Failure.TheVariants as failure

-- the records spell a script, and a run of it under `none` takes each of its steps, or refuses this one
abbrev pub IsScriptRun : List Row → Option SimFault → Type 0
IsScriptRun rows None = (s : Scripted) × (sched : Sched) × (trace : Traced) × SpellsScript rows s × (sched.kind ≡ sched_kind.None) × RunsUnder sched s trace
IsScriptRun rows (Some fault) = (s : Scripted) × (sched : Sched) × SpellsScript rows s × (sched.kind ≡ sched_kind.None) × IsRefusedUnder sched s fault

-- of records without a fault: those of a script are run
abbrev pub IsStepIn : Option TextForm → List Row → Option SimFault → Type 0
IsStepIn (Some form.Script) rows refused = IsScriptRun rows refused
IsStepIn f rows refused = refused ≡ None

-- a text of a form is good if no step of it is refused
abbrev pub is_good : Option SimFault → Option TextForm → Bool
is_good None f = is_some f
is_good (Some fault) f = false

-- what is found in the records of bytes, and which step of a script is refused; and nothing is said beside that
pub record AreRowsExplained (bytes : List ℕ) (s : Said) : Type 0 where
  pub finding : Finding
  pub line : ℕ
  pub detail : Detail
  pub explained : IsExplained bytes finding line detail
  pub refused : Option SimFault
  pub ran : IsStepIn (form_without_fault finding) (rows_of bytes) refused
  pub good : s.good ≡ is_good refused (form_without_fault finding)
  pub quiet : s.note ≡ None

-- which line of a recorder is the first that is wrong, if one is
pub record IsPrintedExplained (f : Recorder) (bytes : List ℕ) (s : Said) : Type 0 where
  pub fault : Option LineFault
  pub explained : AreLinesExplained f bytes fault
  pub good : s.good ≡ not (is_some fault)
  pub quiet : s.note ≡ None

-- by the form that the bytes tell
abbrev pub IsExplainedAs : CaptureForm → List ℕ → Said → Type 0
IsExplainedAs capture_form.Records bytes s = AreRowsExplained bytes s
IsExplainedAs (capture_form.Printed f) bytes s = IsPrintedExplained f bytes s

-- the bytes of the input, where these are known, are explained
pub record IsTextExplained (input : Option (List ℕ)) (s : Said) : Type 0 where
  pub bytes : List ℕ
  pub given : IfSome input (λ known. bytes ≡ known)
  pub explained : IsExplainedAs (form_taken None bytes) bytes s

-- the reader failed, or memory ran out
abbrev pub IsExplainFailure : Bool → Failure → Type 0
IsExplainFailure failed (failure.Text f) = IsOutside failed f.why
IsExplainFailure failed failure.Memory = ⊤
IsExplainFailure failed f = ⊥
