-- The names of faults, and what is told beside them.
use Rattle.std.specs.Prelude.{ℕ, List, codes}
use Rattle.edd_commands.specs.declared.faults.Beside.{Beside}
use Rattle.edd_commands.specs.declared.faults.Beside.TheVariants as beside
use Rattle.blk_core.specs.declared.refusals.CoreFault.{CoreFault}
use Rattle.blk_core.specs.declared.refusals.CoreFault.TheVariants as release
use Rattle.blk_core.specs.declared.refusals.IssueFault.{IssueFault}
use Rattle.blk_core.specs.declared.refusals.IssueFault.TheVariants as issue
use Rattle.blk_core.specs.declared.refusals.BackFault.{BackFault}
use Rattle.blk_core.specs.declared.refusals.BackFault.TheVariants as back
use Rattle.blk_core.specs.declared.refusals.TickFault.{TickFault}
use Rattle.blk_core.specs.declared.refusals.TickFault.TheVariants as tick
use Rattle.blk_core.specs.declared.refusals.DepthFault.{DepthFault}
use Rattle.blk_core.specs.declared.refusals.DepthFault.TheVariants as depth

abbrev pub release_told : CoreFault → List ℕ × Beside
release_told release.NoQueue = (codes "NoQueue", beside.Nothing)
release_told (release.Repeated id) = (codes "Repeated", beside.Nothing)
release_told release.TraceFull = (codes "TraceFull", beside.Nothing)
release_told release.Memory = (codes "Memory", beside.Memory)

abbrev pub issue_told : IssueFault → List ℕ × Beside
issue_told issue.NoQueue = (codes "NoQueue", beside.Nothing)
issue_told issue.TagRange = (codes "TagRange", beside.Nothing)
issue_told issue.SlotUsed = (codes "SlotUsed", beside.Nothing)
issue_told issue.TraceFull = (codes "TraceFull", beside.Nothing)
issue_told issue.Memory = (codes "Memory", beside.Memory)

abbrev pub back_told : BackFault → List ℕ × Beside
back_told back.NotIssued = (codes "NotIssued", beside.Nothing)
back_told back.Memory = (codes "Memory", beside.Memory)

abbrev pub tick_told : TickFault → List ℕ × Beside
tick_told (tick.InFlight n) = (codes "InFlight", beside.Nothing)
tick_told tick.TraceFull = (codes "TraceFull", beside.Nothing)
tick_told tick.Memory = (codes "Memory", beside.Memory)

abbrev pub depth_told : DepthFault → List ℕ × Beside
depth_told depth.TraceFull = (codes "TraceFull", beside.Nothing)
depth_told depth.DepthRange = (codes "DepthRange", beside.Nothing)
depth_told depth.Memory = (codes "Memory", beside.Memory)
