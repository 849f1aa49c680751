-- For which hardware queue each call of a layer is.
use Rattle.std.specs.Prelude.{ℕ, ◌≡◌, ⊤, List, [], ◌∷◌, Some, Contains, slice_get}
use Rattle.blk_bio.specs.Bios.{Bio}
use Rattle.blk_trace.specs.Happened.{Happened}
use Rattle.blk_trace.specs.declared.event.Event.TheVariants.{Tick, Release, Join, Issue, Done, Back, Depth}
use Rattle.blk_sched.specs.Policies.{Policy}
use Rattle.blk_core.specs.State.{CoreState}
use Rattle.blk_core.specs.Runs.{MakesCall}
use Rattle.blk_layer.specs.Seats.{AreOwn}

-- the bios are all of one submitter, for which the map has the hardware queue
pub record IsMappedTo (map : List ℕ) (bios : List Bio) (hw : ℕ) : Type 0 where
  pub submitter : ℕ
  pub own : AreOwn submitter bios
  pub entry : slice_get map submitter ≡ Some hw

-- a release is for the hardware queue that the map has for its submitter, and an issue for one for which a worker works; no other call is for one
abbrev pub IsForItsQueue : (policy : Policy) → List ℕ → List ℕ → (old : CoreState) → (e : Happened) → (new : CoreState) → MakesCall policy old e new → Type 0
IsForItsQueue policy map queues old (Release id bios) new call = IsMappedTo map bios call.hw
IsForItsQueue policy map queues old (Join id bios) new call = IsMappedTo map bios call.1.hw
IsForItsQueue policy map queues old (Issue id tag) new call = Contains queues call.hw
IsForItsQueue policy map queues old (Done tag) new call = ⊤
IsForItsQueue policy map queues old (Back tag) new call = ⊤
IsForItsQueue policy map queues old Tick new call = ⊤
IsForItsQueue policy map queues old (Depth n) new call = ⊤

-- a call that adds an event, for its hardware queue
pub record MakesLayerCall (policy : Policy) (map queues : List ℕ) (old : CoreState) (e : Happened) (new : CoreState) : Type 0 where
  pub call : MakesCall policy old e new
  pub its : IsForItsQueue policy map queues old e new call

-- these events, one after the other, lead from one core to another
unfoldable pub MakesLayerCalls : Policy → List ℕ → List ℕ → CoreState → List Happened → CoreState → Type 0
MakesLayerCalls policy map queues old [] new = new ≡ old
MakesLayerCalls policy map queues old (e ∷ es) new =
    (middle : CoreState) × MakesLayerCall policy map queues old e middle × MakesLayerCalls policy map queues middle es new

-- a layer makes these events from a core on, where its map is this one and its workers work for these hardware queues
abbrev pub IsLayerRun : Policy → List ℕ → List ℕ → CoreState → List Happened → Type 0
IsLayerRun policy map queues start events = ∥ ((end : CoreState) × MakesLayerCalls policy map queues start events end) ∥₁
