-- What is written of a script under each setting of a grid, and why nothing is.
use Rattle.std.specs.Prelude.{◌≡◌, ◌⊎◌, ℕ, Bool, List, Option}
use Rattle.blk_records.specs.Sources.{Row as Record}
use Rattle.blk_text.specs.Script.{Scripted, SpellsScript, ScriptFault}
use Rattle.blk_schedulers.specs.declared.sched.Sched.{Sched}
use Rattle.blk_schedulers.specs.Wanted.{Wanted}
use Rattle.blk_tune.specs.declared.row.TrialRow.{TrialRow}
use Rattle.blk_tune.specs.Tuned.{AreTuned}
use Rattle.blk_tune.specs.Answers.{trial_parts}
use Rattle.blk_args.specs.Asked.{AsksGrid}
use Rattle.blk_schedulers.specs.declared.form.Form.{Form}
use Rattle.blk_args.specs.declared.words.Tuning.{Tuning}
use Rattle.blk_cli.specs.declared.failure.Failure.{Failure}
use Rattle.blk_cli.specs.declared.failure.Failure.TheVariants as failure
use Rattle.blk_cli.specs.Forms.{written_in}
use Rattle.blk_cli.specs.Comparing.{IsCompareFailure}
use Rattle.blk_cli.specs.Inputs.{FailsOver}

-- what is asked of a trial with this grid
abbrev pub wanted_by : Tuning → List Sched → Wanted
wanted_by t g = record { grid = g; by = t.by; top = t.top }

-- what is said of a trial, in a form
pub record IsTunedIn (f : Form) (w : Wanted) (script : Scripted) (text : List ℕ) : Type 0 where
  pub rows : List TrialRow
  pub are_tuned : AreTuned w script rows
  pub is_text : text ≡ written_in f (trial_parts w.by w.top rows)

-- what `tune` writes: the rows of the grid that the words ask for
pub record IsTrial (words : List (List ℕ)) (t : Tuning) (script : Scripted) (text : List ℕ) : Type 0 where
  pub grid : List Sched
  pub asked : AsksGrid words grid
  pub is_text : IsTunedIn t.form (wanted_by t grid) script text

-- why it writes nothing: the script isn't run under each setting of this grid, or memory ran out, which may be before there is a grid
abbrev pub IsTuneFailure : List (List ℕ) → Scripted → Failure → Type 0
IsTuneFailure words script f = ((grid : List Sched) × AsksGrid words grid × IsCompareFailure grid script f) ⊎ (f ≡ failure.Memory)

-- why there is no trial of a text
abbrev pub FailsToTry : List (List ℕ) → Option (List Record) → Bool → Failure → Type 0
FailsToTry words input failed f = FailsOver SpellsScript ScriptFault (IsTuneFailure words) input failed f
