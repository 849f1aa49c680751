-- The names of faults, and what is told beside them.
use Rattle.std.specs.Prelude.{ℕ, List, codes}
use Rattle.edd_commands.specs.declared.faults.Beside.{Beside}
use Rattle.edd_commands.specs.declared.faults.Beside.TheVariants as beside
use Rattle.blk_deadline.specs.Names.{deadline_told}
use Rattle.blk_kyber.specs.Names.{kyber_told}
use Rattle.blk_schedulers.specs.declared.sched.SchedFault.{SchedFault}
use Rattle.blk_schedulers.specs.declared.sched.SchedFault.TheVariants as setting
use Rattle.blk_schedulers.specs.declared.Unsettled.{Unsettled}
use Rattle.blk_schedulers.specs.declared.Unsettled.TheVariants as unsettled

abbrev pub sched_told : SchedFault → List ℕ × Beside
sched_told (setting.Deadline f) = deadline_told f
sched_told (setting.Kyber f) = kyber_told f
sched_told setting.Memory = (codes "Memory", beside.Memory)

abbrev pub unsettled_told : Unsettled → List ℕ × Beside
unsettled_told unsettled.Range = (codes "Range", beside.Nothing)
unsettled_told (unsettled.Sched f) = sched_told f
unsettled_told (unsettled.Load t) = (t.name.now, t.beside)
