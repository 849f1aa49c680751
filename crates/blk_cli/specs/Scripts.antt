-- What is written of a script under a scheduler, and why nothing is.
use Rattle.std.specs.Prelude.{⊤, ℕ, List}
use Rattle.blk_trace.specs.Traces.{Traced}
use Rattle.blk_text.specs.Script.{Scripted}
use Rattle.blk_runs.specs.Runs.{IsTraceOfScript, IsRunFault}
use Rattle.blk_schedulers.specs.declared.sched.Sched.{Sched}
use Rattle.blk_cli.specs.OfTraces.{IsTraceText}
use Rattle.blk_cli.specs.declared.failure.Failure.{Failure}
use Rattle.blk_cli.specs.declared.failure.Failure.TheVariants as failure

-- what `sim` writes: the text that spells that trace, which is legal
pub record IsSimText (s : Sched) (script : Scripted) (text : List ℕ) : Type 0 where
  pub trace : Traced
  pub is_trace : IsTraceOfScript s script trace
  pub is_text : IsTraceText trace text

-- the script isn't run, or memory ran out
abbrev pub FailsToRun : Sched → Scripted → Failure → Type 0
FailsToRun s script (failure.Run f) = IsRunFault s script f
FailsToRun s script failure.Memory = ⊤
FailsToRun s script f = ⊥
