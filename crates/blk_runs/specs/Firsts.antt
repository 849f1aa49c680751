-- A script under each of some schedulers, and for which of them first it isn't run.
use Rattle.std.specs.Prelude.{◌≡◌, ◌⊎◌, ◌++◌, ◌∷◌, ⊤, List, All}
use Rattle.blk_text.specs.Script.{Scripted}
use Rattle.blk_trace.specs.Traces.{Traced}
use Rattle.blk_sim.specs.declared.refusal.SimFault.{SimFault}
use Rattle.blk_schedulers.specs.declared.sched.Sched.{Sched}
use Rattle.blk_schedulers.specs.declared.sched.SchedFault.{SchedFault}
use Rattle.blk_schedulers.specs.Made.{IsMade, HasFault, IsOutOfMemory}
use Rattle.blk_runs.specs.declared.fault.RunFault.{RunFault}
use Rattle.blk_runs.specs.declared.fault.RunFault.TheVariants as run
use Rattle.blk_runs.specs.Runs.{IsTraceOfScript, IsRefusedUnder}

-- one of them isn't made of its settings, and those before it are
pub record IsFirstUnmade (scheds : List Sched) (f : SchedFault) : Type 0 where
  pub before : List Sched
  pub unmade : Sched
  pub after : List Sched
  pub turn : scheds ≡ before ++ unmade ∷ after
  pub made : All IsMade before
  pub fault : HasFault unmade f

-- not all of them are made: for the first that isn't made of its settings, or since memory ran out
abbrev pub AreUnmade : List Sched → SchedFault → Type 0
AreUnmade scheds f = IsFirstUnmade scheds f ⊎ IsOutOfMemory f

-- a script that a scheduler runs whole
abbrev pub RunsWhole : Scripted → Sched → Type 0
RunsWhole script s = (trace : Traced) × IsTraceOfScript s script trace

-- all are made, a step is refused under one of them, and under those before it the script runs whole
pub record IsFirstRefused (scheds : List Sched) (script : Scripted) (f : SimFault) : Type 0 where
  pub before : List Sched
  pub under : Sched
  pub after : List Sched
  pub turn : scheds ≡ before ++ under ∷ after
  pub made : All IsMade scheds
  pub whole : All (RunsWhole script) before
  pub refused : IsRefusedUnder under script f

-- why a script is not run under each of them
abbrev pub AreUnrun : List Sched → Scripted → RunFault → Type 0
AreUnrun scheds script (run.Sched f) = AreUnmade scheds f
AreUnrun scheds script (run.Step f) = IsFirstRefused scheds script f
AreUnrun scheds script run.Memory = ⊤
