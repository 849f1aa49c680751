-- Why a load fails, what is told of it, and which of several reasons is reported.
use Rattle.std.specs.Prelude.{ℕ, ◌≡◌, ◌≤◌, ◌⊎◌, List, Option, None, IfSome, codes}
use Rattle.edd_commands.specs.declared.faults.Beside.{Beside}
use Rattle.edd_commands.specs.declared.faults.Beside.TheVariants as beside
use Rattle.blk_layer.specs.Names.{work_told, flush_told, close_told}
use Rattle.blk_layer.specs.declared.closing.CloseFault.TheVariants as close
use Rattle.blk_layer.specs.declared.serving.WorkFault.TheVariants as work
use Rattle.blk_layer.specs.declared.submitting.FlushReason.TheVariants as flush
use Rattle.blk_load.specs.declared.fault.LoadFault.{LoadFault}
use Rattle.blk_load.specs.declared.fault.LoadFault.TheVariants as fault

-- its name, and what is told beside it: those of the layer's fault behind it
abbrev pub load_told : LoadFault → List ℕ × Beside
load_told fault.Memory = (codes "Memory", beside.Memory)
load_told (fault.Work f) = work_told f
load_told (fault.Flush f) = flush_told f
load_told fault.Stalled = (codes "stalled", beside.Nothing)
load_told (fault.Close f) = close_told f
load_told fault.Differs = (codes "Differs", beside.Nothing)
load_told fault.Unserved = (codes "Unserved", beside.Nothing)

-- the place of a fault in their order: memory before all
abbrev pub fault_rank : LoadFault → ℕ
fault_rank fault.Memory = 0
fault_rank (fault.Work work.Memory) = 0
fault_rank (fault.Flush flush.Memory) = 0
fault_rank (fault.Close close.Memory) = 0
fault_rank (fault.Work work.TraceFull) = 1
fault_rank (fault.Work (work.Repeated id)) = 2
fault_rank (fault.Flush (flush.Foreign id)) = 2
fault_rank (fault.Flush (flush.Repeated id)) = 2
fault_rank (fault.Flush flush.SoftFull) = 2
fault_rank fault.Stalled = 3
fault_rank (fault.Close close.SeatMissing) = 4
fault_rank fault.Differs = 5
fault_rank fault.Unserved = 6

-- the first of two, where there are some: it is one of them, and neither comes before it
pub record IsFirstOfTwo (one other found : Option LoadFault) : Type 0 where
  pub among : (found ≡ one) ⊎ (found ≡ other)
  pub none : found ≡ None → (one ≡ None) × (other ≡ None)
  pub before_one : IfSome found (λ f. IfSome one (λ a. fault_rank f ≤ fault_rank a))
  pub before_other : IfSome found (λ f. IfSome other (λ b. fault_rank f ≤ fault_rank b))
