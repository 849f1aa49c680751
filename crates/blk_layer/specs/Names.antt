-- The names of faults, and what is told beside them.
use Rattle.std.specs.Prelude.{ℕ, List, codes}
use Rattle.edd_commands.specs.declared.faults.Beside.{Beside}
use Rattle.edd_commands.specs.declared.faults.Beside.TheVariants as beside
use Rattle.blk_layer.specs.declared.closing.CloseFault.{CloseFault}
use Rattle.blk_layer.specs.declared.closing.CloseFault.TheVariants as close
use Rattle.blk_layer.specs.declared.submitting.FlushReason.{FlushReason}
use Rattle.blk_layer.specs.declared.submitting.FlushReason.TheVariants as flush
use Rattle.blk_layer.specs.declared.serving.WorkFault.{WorkFault}
use Rattle.blk_layer.specs.declared.serving.WorkFault.TheVariants as work

abbrev pub work_told : WorkFault → List ℕ × Beside
work_told work.TraceFull = (codes "TraceFull", beside.Nothing)
work_told work.Memory = (codes "Memory", beside.Memory)
work_told (work.Repeated id) = (codes "Repeated", beside.Nothing)

abbrev pub flush_told : FlushReason → List ℕ × Beside
flush_told (flush.Foreign id) = (codes "Foreign", beside.Nothing)
flush_told (flush.Repeated id) = (codes "Repeated", beside.Nothing)
flush_told flush.SoftFull = (codes "SoftFull", beside.Nothing)
flush_told flush.Memory = (codes "Memory", beside.Memory)

abbrev pub close_told : CloseFault → List ℕ × Beside
close_told close.SeatMissing = (codes "SeatMissing", beside.Nothing)
close_told close.Memory = (codes "Memory", beside.Memory)
