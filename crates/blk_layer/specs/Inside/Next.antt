-- Why a worker is issued no next command, and what a pass makes of it.
use Rattle.std.specs.Prelude.{ℕ, ◌≡◌, ◌+◌, ◌<◌, ◌≤◌, ⊤, ◌⊎◌, ◌++◌, ◌∷◌, [], Result, Ok, Err, Contains, length}
use Rattle.blk_tags.specs.Tags.{Seat}
use Rattle.blk_sched.specs.Policies.{Policy}
use Rattle.blk_core.specs.State.{CoreState}
use Rattle.blk_core.specs.Tries.{IsNoneIssued, IsOfUsedUp}
use Rattle.blk_core.specs.declared.refusals.IssueFault.TheVariants as issue
use Rattle.blk_core.specs.declared.refusals.TickFault.TheVariants as tick
use Rattle.blk_core.specs.declared.trying.NoneIssued.TheVariants as none
use Rattle.blk_layer.specs.declared.seats.NoNext.{NoNext}
use Rattle.blk_layer.specs.declared.seats.NoNext.TheVariants.{NoTag, Tried}
use Rattle.blk_layer.specs.declared.serving.WorkFault.{WorkFault}
use Rattle.blk_layer.specs.declared.serving.WorkFault.TheVariants as work

-- a seat took a tag of its set that it didn't hold, and holds what it held beside it
pub record TakesTag (old : Seat) (tag : ℕ) (new : Seat) : Type 0 where
  pub below : tag < old.of_set.depth
  pub unheld : ¬ Contains old.tags tag
  pub same_set : new.of_set ≡ old.of_set
  pub taken : new.tags ≡ old.tags ++ tag ∷ []

-- a seat of a set holds what it held
abbrev pub KeepsTags : Seat → Seat → Type 0
KeepsTags old new = (new.of_set ≡ old.of_set) × (new.tags ≡ old.tags)

-- a seat made at least as many tries as its set has tags
abbrev pub TriesEach : Seat → Seat → Type 0
TriesEach old new = length old.steps + old.of_set.depth ≤ length new.steps

-- there is no next command since no tag is free, or the last one tried is used up in the round
abbrev pub WantsTag : NoNext → Type 0
WantsTag NoTag = ⊤
WantsTag (Tried (none.Issue why)) = IsOfUsedUp why
WantsTag (Tried _) = ⊥

-- why there is no next command: no tag was free, or no memory for the account, and the core is as it was; or a try for a hardware queue
-- under some tag issued nothing for this reason, and did what that says: only a round that is full ends
abbrev pub IsNoNext : Policy → CoreState → ℕ → NoNext → CoreState → Type 0
IsNoNext policy old hw NoTag new = new ≡ old
IsNoNext policy old hw (Tried why) new =
    ((why ≡ none.Issue issue.Memory) × (new ≡ old)) ⊎ ((tag : ℕ) × IsNoneIssued policy.serves policy.chooses policy.told_tick old hw tag why new)

-- what a pass makes of the reason: it ends, or is refused
abbrev pub pass_end : NoNext → Result (Unit {0}) WorkFault
pass_end (Tried (none.Issue issue.TraceFull)) = Err work.TraceFull
pass_end (Tried (none.Tick tick.TraceFull)) = Err work.TraceFull
pass_end (Tried (none.Issue issue.Memory)) = Err work.Memory
pass_end (Tried (none.Tick tick.Memory)) = Err work.Memory
pass_end _ = Ok tt
