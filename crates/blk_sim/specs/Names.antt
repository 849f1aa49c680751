-- The names of faults, and what is told beside them.
use Rattle.std.specs.Prelude.{ℕ, List, codes}
use Rattle.edd_commands.specs.declared.faults.Beside.{Beside}
use Rattle.edd_commands.specs.declared.faults.Beside.TheVariants as beside
use Rattle.blk_queues.specs.Names.{plug_told}
use Rattle.blk_core.specs.Names.{release_told, issue_told, back_told, tick_told, depth_told}
use Rattle.blk_sim.specs.declared.refusal.SimReason.{SimReason}
use Rattle.blk_sim.specs.declared.refusal.SimReason.TheVariants as why
use Rattle.blk_sim.specs.declared.refusal.SimFault.{SimFault}

abbrev pub reason_told : SimReason → List ℕ × Beside
reason_told (why.Plug f) = plug_told f
reason_told (why.SoftFull o) = (codes "SoftFull", beside.Nothing)
reason_told (why.Release f) = release_told f
reason_told (why.Issue f) = issue_told f
reason_told why.NotIssued = (codes "NotIssued", beside.Nothing)
reason_told (why.Back f) = back_told f
reason_told (why.Depth f) = depth_told f
reason_told (why.Tick f) = tick_told f
reason_told why.Memory = (codes "Memory", beside.Memory)

-- at a record, but where memory ran out
abbrev pub at_step : ℕ → Beside → Beside
at_step at beside.Memory = beside.Memory
at_step at other = beside.Record at

abbrev pub step_told : SimFault → List ℕ × Beside
step_told f = ((reason_told f.why).0, at_step f.at (reason_told f.why).1)
