-- Why a try for a command issues none, and when it ends a round.
use Rattle.std.specs.Prelude.{ℕ, ◌≡◌, ◌<◌, ◌≤◌, ◌⊎◌, ◌+◌, Bool, List, None, fold, if◌then◌else◌}
use Rattle.blk_trace.specs.Happened.{Happened}
use Rattle.blk_trace.specs.Kinds.{is_tick, is_issue}
use Rattle.blk_trace.specs.Depths.{depth_now}
use Rattle.blk_sched.specs.Meaning.{Waiting}
use Rattle.blk_sched.specs.Policies.{OfTick, Choice}
use Rattle.blk_core.specs.State.{CoreState}
use Rattle.blk_core.specs.Faults.{IsIssueFault, IsTickFault}
use Rattle.blk_core.specs.Calls.{Ends, Issues}
use Rattle.blk_core.specs.declared.trying.NoneIssued.{NoneIssued}
use Rattle.blk_core.specs.declared.trying.NoneIssued.TheVariants as none
use Rattle.blk_core.specs.declared.refusals.IssueFault.{IssueFault}
use Rattle.blk_core.specs.declared.refusals.IssueFault.TheVariants as issue

-- an issue is refused so where its tag is used up in the current round: it was issued in it, or isn't below its depth
abbrev pub IsOfUsedUp : IssueFault → Type 0
IsOfUsedUp why = (why ≡ issue.TagRange) ⊎ (why ≡ issue.SlotUsed)

abbrev pub IsUsedUp : CoreState → ℕ → ℕ → Type 0
IsUsedUp c hw tag = (why : IssueFault) × IsOfUsedUp why × IsIssueFault c hw tag why

-- how many commands were issued in the current round after an event, by how many were before it
abbrev pub issued_after : ℕ → Happened → ℕ
issued_after n e = if is_tick e then 0 else (if is_issue e then n + 1 else n)

-- how many commands were issued in the current round
unfoldable pub issued_now : List Happened → ℕ
issued_now events = fold issued_after 0 events

-- the current round is full: as many commands were issued in it as it carries. Else it carries more
abbrev pub IsFull : CoreState → Type 0
IsFull c = depth_now c.setup c.events ≤ issued_now c.events

abbrev pub CarriesMore : CoreState → Type 0
CarriesMore c = issued_now c.events < depth_now c.setup c.events

-- why a try issues nothing, and what it does: a round ends only where it is full, the tag is used up in it, and no command is in flight
abbrev pub IsNoneIssued : (ℕ → Waiting → Bool) → Choice → OfTick → CoreState → ℕ → ℕ → NoneIssued → CoreState → Type 0
IsNoneIssued serves chooses told old hw tag none.Nothing new = Issues serves chooses old hw tag None new
IsNoneIssued serves chooses told old hw tag (none.Issue why) new = IsIssueFault old hw tag why × (IsOfUsedUp why → CarriesMore old) × (new ≡ old)
IsNoneIssued serves chooses told old hw tag (none.Tick why) new = IsUsedUp old hw tag × IsFull old × IsTickFault old why × (new ≡ old)
IsNoneIssued serves chooses told old hw tag none.Ended new = IsUsedUp old hw tag × IsFull old × Ends told old new
