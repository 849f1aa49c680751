-- What the steps that move requests do to plugs, software queues and the core.
use Rattle.std.specs.Prelude.{[], ◌∷◌, ◌≡◌, ◌≢◌, ◌+◌, ◌≤◌, ◌%◌, ◌==◌, ◌++◌, ℕ, zero, suc, cond, List, Option, Some, None, Ok, length, slice_get, slice_set, flat_map, IsPermutation}
use Rattle.std.specs.Option.{option_map}
use Rattle.blk_bio.specs.Bios.{Bio}
use Rattle.blk_queues.specs.Plugs.{Plug, bios_plugged}
use Rattle.blk_queues.specs.Answers.{IsAddAnswer}
use Rattle.blk_queues.specs.declared.plug.Added.{Added}
use Rattle.blk_queues.specs.Queues.{Queue, bios_held}
use Rattle.blk_core.specs.State.{CoreState}
use Rattle.blk_core.specs.Calls.{Places}
use Rattle.blk_core.specs.Faults.{CanRelease}
use Rattle.blk_sched.specs.Policies.{Policy}
use Rattle.blk_core.specs.declared.calls.Placed.{Placed}

-- the bios of requests, in their order
abbrev pub bios_in : List (List Bio) → List Bio
bios_in requests = flat_map (λ bios. bios) requests

-- the plug of a bio's submitter takes it, as the plug answers, and the other plugs stay
pub record AddsBio (old : List Plug) (b : Bio) (new : List Plug) : Type 0 where
  pub own : Plug
  pub grown : Plug
  pub added : Added
  pub stands : slice_get old b.id.submitter ≡ Some own
  pub answer : IsAddAnswer own b grown (Ok added)
  pub kept : IsPermutation (b ∷ bios_plugged own) (bios_plugged grown)
  pub changed : new ≡ slice_set old b.id.submitter grown

-- a software queue has room for all requests of a plug
abbrev pub HasSoftRoom : Queue → Plug → Type 0
HasSoftRoom queue plug = length queue.requests + length plug.requests ≤ queue.depth

-- a plug without its requests
abbrev pub flushed_plug : Plug → Plug
flushed_plug plug = record { limits = plug.limits; requests = [] }

-- a software queue that took these requests in, behind its own
abbrev pub with_requests : Queue → List (List Bio) → Queue
with_requests queue requests = record {
  depth = queue.depth;
  limits = queue.limits;
  requests = queue.requests ++ requests;
  bios_in = queue.bios_in + length (bios_in requests);
  bios_out = queue.bios_out;
}

-- a submitter's plug is emptied into its software queue, which has room, in the order of its requests, and the others stay
pub record EmptiesPlug (plugs : List Plug) (queues : List Queue) (s : ℕ) (new_plugs : List Plug) (new_queues : List Queue) : Type 0 where
  pub own : Plug
  pub to : Queue
  pub own_stands : slice_get plugs s ≡ Some own
  pub to_stands : slice_get queues s ≡ Some to
  pub room : HasSoftRoom to own
  pub plugs_are : new_plugs ≡ slice_set plugs s (flushed_plug own)
  pub queues_are : new_queues ≡ slice_set queues s (with_requests to own.requests)

-- the core takes a request for a hardware queue, and places it
abbrev pub EntersCore : Policy → ℕ → List Bio → CoreState → CoreState → Type 0
EntersCore policy hw bios old new = (placed : Placed) × CanRelease old bios hw × Places policy.serves old bios hw placed new

-- requests enter the core, one after the other
unfoldable pub EnterInTurn : Policy → ℕ → List (List Bio) → CoreState → CoreState → Type 0
EnterInTurn policy hw [] old new = new ≡ old
EnterInTurn policy hw (bios ∷ rest) old new = (middle : CoreState) × EntersCore policy hw bios old middle × EnterInTurn policy hw rest middle new

-- the requests of the software queue of this number
abbrev pub requests_in : Option Queue → List (List Bio)
requests_in None = []
requests_in (Some queue) = queue.requests

-- the requests of those of the first n software queues that a hardware queue of `count` serves, by their rising number
-- and in each from the first
unfoldable pub served_requests : List Queue → ℕ → ℕ → ℕ → List (List Bio)
served_requests queues count hw zero = []
served_requests queues count hw (suc n) = served_requests queues count hw n ++ cond ((n % count) == hw) (requests_in (slice_get queues n)) []

-- a software queue whose requests went
abbrev pub drained : Queue → Queue
drained queue = record {
  depth = queue.depth;
  limits = queue.limits;
  requests = [];
  bios_in = queue.bios_in;
  bios_out = queue.bios_out + bios_held queue;
}

-- the requests of the software queues that a hardware queue of `count` serves went, and the others stay
pub record AreEmptied (count hw : ℕ) (old new : List Queue) : Type 0 where
  pub as_many : length new ≡ length old
  pub served : (s : ℕ) → (s % count) ≡ hw → slice_get new s ≡ option_map drained (slice_get old s)
  pub others : (s : ℕ) → (s % count) ≢ hw → slice_get new s ≡ slice_get old s

-- the requests of the software queues that a hardware queue of `count` serves enter the core
pub record Drains (policy : Policy) (count hw : ℕ) (queues : List Queue) (core : CoreState) (new_queues : List Queue) (new_core : CoreState) : Type 0 where
  pub emptied : AreEmptied count hw queues new_queues
  pub entered : EnterInTurn policy hw (served_requests queues count hw (length queues)) core new_core

-- the first n hardware queues of `count` are drained in turn
unfoldable pub DrainInTurn : Policy → ℕ → ℕ → List Queue → CoreState → List Queue → CoreState → Type 0
DrainInTurn policy count zero queues core new_queues new_core = (new_queues ≡ queues) × (new_core ≡ core)
DrainInTurn policy count (suc n) queues core new_queues new_core =
    (between : List Queue) × (middle : CoreState) × DrainInTurn policy count n queues core between middle
    × Drains policy count n between middle new_queues new_core

-- all hardware queues are, in turn
abbrev pub DrainsAll : Policy → List Queue → CoreState → List Queue → CoreState → Type 0
DrainsAll policy queues core new_queues new_core = DrainInTurn policy core.setup.hw core.setup.hw queues core new_queues new_core
