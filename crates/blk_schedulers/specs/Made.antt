-- Of which settings a scheduler is made, why it isn't, and how one starts.
use Rattle.std.specs.Prelude.{◌≡◌, ◌⊎◌, ℕ, List, Option, None, Some}
use Rattle.blk_sched.specs.Meaning.{Meaning}
use Rattle.edd_commands.specs.declared.faults.Beside.TheVariants as beside
use Rattle.blk_schedulers.specs.Faults.{IsLoadFault}
use Rattle.blk_schedulers.specs.Names.{sched_told}
use Rattle.blk_schedulers.specs.Numbers.{IsLoad}
use Rattle.blk_schedulers.specs.Rows.{sched_for}
use Rattle.blk_schedulers.specs.Scheds.{first_meaning, numbers_at_first}
use Rattle.blk_schedulers.specs.declared.Unsettled.{Unsettled}
use Rattle.blk_schedulers.specs.declared.Unsettled.TheVariants as un
use Rattle.blk_schedulers.specs.declared.numbers.Load.{Load}
use Rattle.blk_schedulers.specs.declared.sched.Sched.{Sched}
use Rattle.blk_schedulers.specs.declared.sched.SchedFault.{SchedFault}

-- what is wrong with its settings
abbrev pub fault_of : Sched → Option SchedFault
fault_of s = (sched_for s.kind).fault s.values

-- a scheduler is made of its settings: nothing is wrong with them; what is wrong with them otherwise; that memory ran out; and why none is made:
-- that, or what is wrong
abbrev pub IsMade : Sched → Type 0
IsMade s = fault_of s ≡ None

abbrev pub HasFault : Sched → SchedFault → Type 0
HasFault s f = fault_of s ≡ Some f

abbrev pub IsOutOfMemory : SchedFault → Type 0
IsOutOfMemory f = (sched_told f).1 ≡ beside.Memory

abbrev pub IsSchedFault : Sched → SchedFault → Type 0
IsSchedFault s f = IsOutOfMemory f ⊎ HasFault s f

-- one that is made and has no request yet
abbrev pub IsStart : Sched → ℕ → Meaning → List ℕ → Type 0
IsStart s depth meaning kept = IsMade s × (meaning ≡ first_meaning s) × (kept ≡ numbers_at_first s depth)

-- why a load under a scheduler came to nothing: a number is out of its range; or none is, and the scheduler isn't made, or the load fails
abbrev pub IsLoadSettingsFault : Sched → Load → Unsettled → Type 0
IsLoadSettingsFault s l un.Range = ¬ IsLoad l
IsLoadSettingsFault s l (un.Sched f) = IsLoad l × IsSchedFault s f
IsLoadSettingsFault s l (un.Load t) = IsLoad l × IsLoadFault t
