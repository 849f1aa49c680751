-- The names of faults, and what is told beside them.
use Rattle.std.specs.Prelude.{ℕ, List, codes}
use Rattle.edd_commands.specs.declared.faults.Beside.{Beside}
use Rattle.edd_commands.specs.declared.faults.Beside.TheVariants as beside
use Rattle.blk_trace.specs.declared.setup.SetupFault.{SetupFault}
use Rattle.blk_trace.specs.declared.setup.SetupFault.TheVariants as setup

abbrev pub setup_told : SetupFault → List ℕ × Beside
setup_told setup.Depth = (codes "Depth", beside.Nothing)
setup_told setup.Queues = (codes "Queues", beside.Nothing)
setup_told setup.Expire = (codes "Expire", beside.Nothing)
