-- The names of faults, and what is told beside them.
use Rattle.std.specs.Prelude.{ℕ, List, codes}
use Rattle.edd_commands.specs.declared.faults.Beside.{Beside}
use Rattle.edd_commands.specs.declared.faults.Beside.TheVariants as beside
use Rattle.blk_schedulers.specs.Names.{sched_told}
use Rattle.blk_sim.specs.Names.{step_told}
use Rattle.blk_runs.specs.declared.fault.RunFault.{RunFault}
use Rattle.blk_runs.specs.declared.fault.RunFault.TheVariants as run

abbrev pub run_told : RunFault → List ℕ × Beside
run_told (run.Sched f) = sched_told f
run_told (run.Step f) = step_told f
run_told run.Memory = (codes "Memory", beside.Memory)
