-- The names of faults, and what is told beside them.
use Rattle.std.specs.Prelude.{ℕ, List, codes}
use Rattle.edd_commands.specs.declared.faults.Beside.{Beside}
use Rattle.edd_commands.specs.declared.faults.Beside.TheVariants as beside
use Rattle.blk_deadline.specs.declared.DeadlineFault.{DeadlineFault}
use Rattle.blk_deadline.specs.declared.DeadlineFault.TheVariants as fault

abbrev pub deadline_told : DeadlineFault → List ℕ × Beside
deadline_told fault.ZeroBatch = (codes "ZeroBatch", beside.Nothing)
deadline_told fault.Memory = (codes "Memory", beside.Memory)
