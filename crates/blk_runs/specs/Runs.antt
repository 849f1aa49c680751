-- A script under a scheduler: the trace to which its steps lead, or why they don't.
use Rattle.std.specs.Prelude.{◌≡◌, ⊤, ℕ, List, IsPermutation, sum_by}
use Rattle.blk_trace.specs.Events.{entered, round_of}
use Rattle.blk_trace.specs.Traces.{Traced}
use Rattle.blk_sched.specs.Meaning.{Meaning}
use Rattle.blk_text.specs.Script.{Scripted}
use Rattle.blk_sim.specs.declared.refusal.SimFault.{SimFault}
use Rattle.blk_sched.specs.Policies.{Policy}
use Rattle.blk_sim.specs.Simulation.{released_bios, ticks_of}
use Rattle.blk_sim.specs.State.{SimState, start_of}
use Rattle.blk_sim.specs.Runs.{Runs}
use Rattle.blk_sim.specs.Refusals.{IsSimFault}
use Rattle.blk_schedulers.specs.Made.{IsMade, IsSchedFault}
use Rattle.blk_schedulers.specs.Scheds.{policy_of, first_meaning, numbers_at_first}
use Rattle.blk_schedulers.specs.declared.sched.Sched.{Sched}
use Rattle.blk_runs.specs.declared.fault.RunFault.{RunFault}
use Rattle.blk_runs.specs.declared.fault.RunFault.TheVariants as run

-- the steps of a script lead from the start to this trace
abbrev pub RunsFrom : Policy → Scripted → Meaning → List ℕ → Traced → Type 0
RunsFrom policy script meaning kept trace = (end : SimState) × Runs policy script.lines (start_of script meaning kept) end
    × (trace.setup ≡ end.core.setup) × (trace.events ≡ end.core.events)

-- they do so from the start of a scheduler of these settings by a policy, and one of them is refused so; and by its own policy
abbrev pub RunsBy : Policy → Sched → Scripted → Traced → Type 0
RunsBy policy s script trace = IsMade s × RunsFrom policy script (first_meaning s) (numbers_at_first s script.setup.depth) trace

abbrev pub IsRefusedBy : Policy → Sched → Scripted → SimFault → Type 0
IsRefusedBy policy s script f = IsMade s × IsSimFault policy script (first_meaning s) (numbers_at_first s script.setup.depth) f

abbrev pub RunsUnder : Sched → Scripted → Traced → Type 0
RunsUnder s script trace = RunsBy (policy_of s) s script trace

abbrev pub IsRefusedUnder : Sched → Scripted → SimFault → Type 0
IsRefusedUnder s script f = IsRefusedBy (policy_of s) s script f

-- the trace to which a script's steps lead under a scheduler, with the script's setup. Its bios are, each once, the `bio` lines that
-- are followed by a flush of their submitter, and after it by a drain of its hardware queue or a run; its Ticks are as many as the
-- `tick` lines and the n of the `run` lines together
pub record IsTraceOfScript (s : Sched) (script : Scripted) (trace : Traced) : Type 0 where
  pub ran : RunsUnder s script trace
  pub setup : trace.setup ≡ script.setup
  pub bios : IsPermutation (entered trace.events) (released_bios script.setup.hw script.lines)
  pub ticks : round_of trace.events ≡ sum_by ticks_of script.lines

-- why a script is not run: its scheduler isn't made of its settings, or a step is refused
abbrev pub IsRunFaultBy : Policy → Sched → Scripted → RunFault → Type 0
IsRunFaultBy policy s script (run.Sched f) = IsSchedFault s f
IsRunFaultBy policy s script (run.Step f) = IsRefusedBy policy s script f
IsRunFaultBy policy s script run.Memory = ⊤

abbrev pub IsRunFault : Sched → Scripted → RunFault → Type 0
IsRunFault s script f = IsRunFaultBy (policy_of s) s script f
