-- What a core does, call after call, over a scheduler that serves, chooses and keeps as its policy says.
use Rattle.std.specs.Prelude.{ℕ, ◌≡◌, List, [], ◌∷◌, Some}
use Rattle.edd_commands.specs.declared.Command.{Command}
use Rattle.blk_bio.specs.Bios.{Bio}
use Rattle.blk_bio.specs.declared.request.Side.{Side}
use Rattle.blk_trace.specs.Happened.{Happened}
use Rattle.blk_trace.specs.declared.event.Event.TheVariants.{Tick, Release, Join, Issue, Done, Back, Depth}
use Rattle.blk_trace.specs.Traces.{Traced}
use Rattle.blk_sched.specs.Meaning.{Meaning}
use Rattle.blk_core.specs.declared.calls.Placed.{Placed}
use Rattle.blk_core.specs.declared.calls.Placed.TheVariants.{New, Joined}
use Rattle.blk_core.specs.State.{CoreState, new_core}
use Rattle.blk_sched.specs.Policies.{Policy}
use Rattle.blk_core.specs.Calls.{Places, Issues, Completes, RequeuesTag, Ends, SetsDepth}

-- a request was released for some hardware queue, and went there
pub record Releases (policy : Policy) (old : CoreState) (bios : List Bio) (placed : Placed) (new : CoreState) : Type 0 where
  pub hw : ℕ
  pub places : Places policy.serves old bios hw placed new

-- the command of this id was issued under the tag for some hardware queue
pub record IssuesOne (policy : Policy) (old : CoreState) (id tag : ℕ) (new : CoreState) : Type 0 where
  pub hw : ℕ
  pub command : Command
  pub named : command.id ≡ id
  pub issues : Issues policy.serves policy.chooses old hw tag (Some command) new

-- the command in flight under the tag was requeued
pub record RequeuesSomeTag (old : CoreState) (tag : ℕ) (new : CoreState) : Type 0 where
  pub id : ℕ
  pub taken : RequeuesTag old tag id new

-- what the call that adds an event does: a release, an issue, a completion, a Back, the end of a round, or a new depth
abbrev pub MakesCall : Policy → CoreState → Happened → CoreState → Type 0
MakesCall policy old (Release id bios) new = Releases policy old bios (New id) new
MakesCall policy old (Join id bios) new = (side : Side) × Releases policy old bios (Joined id side) new
MakesCall policy old (Issue id tag) new = IssuesOne policy old id tag new
MakesCall policy old (Done tag) new = Completes policy.told_done old tag new
MakesCall policy old (Back tag) new = RequeuesSomeTag old tag new
MakesCall policy old Tick new = Ends policy.told_tick old new
MakesCall policy old (Depth n) new = SetsDepth old n new

-- these events, one after the other, lead from one core to another
unfoldable pub MakesCalls : Policy → CoreState → List Happened → CoreState → Type 0
MakesCalls policy old [] new = new ≡ old
MakesCalls policy old (e ∷ es) new =
    (middle : CoreState) × MakesCall policy old e middle × MakesCalls policy middle es new

-- they lead from a core to some other
abbrev pub IsRunFrom : Policy → CoreState → List Happened → Type 0
IsRunFrom policy start events = ∥ ((end : CoreState) × MakesCalls policy start events end) ∥₁

-- a trace is one that a core makes whose scheduler follows the policy, and means and keeps this before the first call
abbrev pub IsRunBy : Policy → Meaning → List ℕ → Traced → Type 0
IsRunBy policy meaning kept trace = IsRunFrom policy (new_core trace.setup meaning kept) trace.events
