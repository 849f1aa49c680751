-- From the bytes of a script to what the program tells of its trace.
use Rattle.std.specs.Prelude.{ℕ, ◌≡◌, ◌↔◌, ◌⊎◌, ◌++◌, List, Bool, Option, Some, Result, IfOk, pos, All}
use Rattle.text_output.specs.Outputs.{Stream, IsWritten}
use Rattle.csv.specs.Reading.{default_config, records, strip_bom}
use Rattle.blk_records.specs.Sources.{Row}
use Rattle.edd_figures.specs.Figures.{shortfall_in}
use Rattle.blk_trace.specs.Traces.{Traced}
use Rattle.blk_text.specs.Script.{Scripted, SpellsScript}
use Rattle.blk_text.specs.TraceForm.{SpellsTrace}
use Rattle.blk_schedulers.specs.Defaults.{earliest_by}
use Rattle.blk_args.specs.declared.table.FiguresAsked.{FiguresAsked}
use Rattle.blk_args.specs.declared.inputs.Running.TheVariants as running
use Rattle.blk_args.specs.declared.inputs.TraceOutput.TheVariants as telling
use Rattle.blk_args.specs.declared.inputs.TextJob.{TextJob}
use Rattle.blk_args.specs.declared.inputs.TextJob.TheVariants as text_job
use Rattle.blk_schedulers.specs.declared.form.Form.TheVariants as form
use Rattle.blk_args.specs.declared.words.Job.{Job}
use Rattle.blk_args.specs.declared.words.Job.TheVariants as job
use Rattle.blk_args.specs.Asked.{Asks}
use Rattle.blk_cli.specs.declared.Ended.{Ended}
use Rattle.blk_cli.specs.Ends.{RunEnds}
use Rattle.blk_cli.specs.Figures.{IsMissesText, IsReportText}
use Rattle.blk_online_cli.specs.ByRounds.{IsByRounds}

-- the records of these bytes
abbrev pub rows_in : List ℕ → List Row
rows_in bytes = records default_config (strip_bom bytes)

-- the bytes spell a script whose steps are bios, flushes, drains, depths and runs alone
abbrev pub SpellByRounds : List ℕ → Type 0
SpellByRounds bytes = (script : Scripted) × SpellsScript (rows_in bytes) script × All IsByRounds script.lines

-- the run of a script under `earliest`, late last or not, and figures of a trace in lines
abbrev pub earliest_run : Bool → TextJob
earliest_run late_last = text_job.OfScript (running.One (earliest_by late_last))

abbrev pub figures_in_lines : FiguresAsked → TextJob
figures_in_lines k = text_job.OfTrace (telling.Figures k form.Lines)

-- the words ask for this job over a text, and for no other job
abbrev pub AskAlone : List (List ℕ) → TextJob → Type 0
AskAlone words only = (j : Job) → Asks words j ↔ (j ≡ job.OfText only)

-- a run of the program on these words, which reads these bytes, ended with status 0, and left its output so
pub record EndsWell (words : List (List ℕ)) (bytes : List ℕ) (old new : Stream) : Type 0 where
  pub read_failed : Bool
  pub faults_old : Stream
  pub faults_new : Stream
  pub ended : Ended
  pub runs : RunEnds words (Some (rows_in bytes)) (Some bytes) read_failed old new faults_old faults_new ended
  pub good : ended.status ≡ 0

-- the report of the trace that the bytes spell was written: its shortfall is 0, or there are no commands
pub record ReportsNoShortfall (bytes : List ℕ) (old new : Stream) : Type 0 where
  pub trace : Traced
  pub text : List ℕ
  pub spelled : SpellsTrace (rows_in bytes) trace
  pub is_text : IsReportText form.Lines trace text
  pub wrote : IsWritten text old new
  pub none_short : (is_text.report.commands ≡ 0) ⊎ (shortfall_in is_text.report.figures ≡ Some (pos 0))

-- what is said of the misses of that trace was written: none of them is avoidable
pub record CountsNoneAvoidable (bytes : List ℕ) (old new : Stream) : Type 0 where
  pub trace : Traced
  pub text : List ℕ
  pub spelled : SpellsTrace (rows_in bytes) trace
  pub is_text : IsMissesText form.Lines trace text
  pub wrote : IsWritten text old new
  pub none_avoidable : is_text.tally.avoidable ≡ 0

-- where one run writes a trace of a script by rounds, and another reads it, this holds of what the other writes
abbrev pub OfTwoRuns : TextJob → TextJob → (List ℕ → Stream → Stream → Type 0) → Type 0
OfTwoRuns first second Tells = (words again : List (List ℕ)) → (script before trace : List ℕ) → (one two old new : Stream)
    → AskAlone words first → AskAlone again second
    → SpellByRounds script → EndsWell words script one two → one.held ≡ Some before → two.held ≡ Some (before ++ trace)
    → EndsWell again trace old new → Tells trace old new

-- where both runs end well, and the first reads a script by rounds, this holds of its trace and of what the other writes
abbrev pub OfItsTrace : {E : Type 0} → (List ℕ → Stream → Stream → Type 0) → Option (List Row) → Stream → Stream → Result Ended E → Type 0
OfItsTrace Tells input old new r = (script : List ℕ) → input ≡ Some (rows_in script) → SpellByRounds script
    → IfOk r (λ ended. ended.status ≡ 0 → (trace : List ℕ) × Tells trace old new)
