-- Why schedulers aren't made; and the scheduler that the checker names where a list has none.
use Rattle.std.proofs.Common.{◌≡◌, ◌∙◌, [], None, Some, sym, inl, inr}
use Rattle.blk_schedulers.specs.Made.{IsMade, IsSchedFault, IsOutOfMemory}
use Rattle.blk_schedulers.specs.declared.rows.SchedKind.TheVariants as kind
use Rattle.blk_schedulers.specs.declared.sched.Sched.{Sched}
use Rattle.blk_schedulers.specs.declared.sched.SchedFault.{SchedFault}

-- what is made of its settings is refused only when out of memory
pub made_memory : (x : Sched) (f : SchedFault) → IsMade x → IsSchedFault x f → IsOutOfMemory f
made_memory x f made h = elim h [ inl e ↦ e | inr e ↦ let no : None ≡ Some f = sym made ∙ e in cc no ]

-- what stands behind the end of a list of schedulers
abbrev pub no_sched : Sched
no_sched = record { kind = kind.None; values = [] }
