-- The names of faults, and what is told beside them.
use Rattle.std.specs.Prelude.{ℕ, List, codes}
use Rattle.edd_commands.specs.declared.faults.Beside.{Beside}
use Rattle.edd_commands.specs.declared.faults.Beside.TheVariants as beside
use Rattle.blk_queues.specs.declared.plug.PlugFault.{PlugFault}
use Rattle.blk_queues.specs.declared.plug.PlugFault.TheVariants as plug

abbrev pub plug_told : PlugFault → List ℕ × Beside
plug_told plug.Full = (codes "Full", beside.Nothing)
plug_told plug.Memory = (codes "Memory", beside.Memory)
