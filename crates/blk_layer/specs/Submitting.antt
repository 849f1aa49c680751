-- What flushes and drains do, and why they end.
use Rattle.std.specs.Prelude.{ℕ, ◌≡◌, ◌≢◌, ◌<◌, ◌≤◌, ◌+◌, ◌⊎◌, ◌++◌, ⊤, List, Some, length, slice_get, slice_index_or, [], ◌∷◌, zero, suc, Bool, true, false, Result, Ok, Err}
use Rattle.std.specs.List.{flat_map}
use Rattle.blk_bio.specs.declared.bio.BioId.{BioId}
use Rattle.blk_bio.specs.Bios.{Bio}
use Rattle.blk_queues.specs.Plugs.{Plug}
use Rattle.blk_queues.specs.Queues.{Queue}
use Rattle.blk_queues.specs.declared.soft.TheConstants.{MAX_BIOS}
use Rattle.blk_trace.specs.Events.{AreOnce, IsFirstRepeatedBio}
use Rattle.blk_layer.specs.declared.submitting.FlushReason.{FlushReason}
use Rattle.blk_layer.specs.declared.submitting.FlushReason.TheVariants.{Foreign, Repeated, SoftFull, Memory}
use Rattle.blk_bio.specs.declared.limits.TheConstants.{MAX_QUEUES}
use Rattle.blk_layer.specs.Seats.{SubmitterSeat, AreOwn}
use Rattle.edd_commands.specs.Order.{BreaksFirst}
use Rattle.blk_sched.specs.Meaning.{Waiting}
use Rattle.blk_core.specs.declared.calls.Placed.{Placed}
use Rattle.blk_core.specs.declared.refusals.CoreFault.{CoreFault}
use Rattle.blk_core.specs.State.{CoreState}
use Rattle.blk_core.specs.Calls.{Places}
use Rattle.blk_core.specs.Faults.{CanRelease, IsReleaseFault}
use Rattle.blk_layer.specs.declared.submitting.DrainFault.{DrainFault}

-- the requests that were taken stood first in the plug, and the account has just their bios more, in their order
pub record Flushes (seat : SubmitterSeat) (plug : Plug) (new_seat : SubmitterSeat) (new_plug : Plug) : Type 0 where
  pub taken : List (List Bio)
  pub stood : plug.requests ≡ taken ++ new_plug.requests
  pub limits : new_plug.limits ≡ plug.limits
  pub added : new_seat.accepted ≡ seat.accepted ++ flat_map (λ request. request) taken
  pub number : new_seat.number ≡ seat.number

-- of the bios, the first that another submitter has named has this id
pub record IsFirstForeign (number : ℕ) (bios : List Bio) (id : BioId) : Type 0 where
  pub place : ℕ
  pub bio : Bio
  pub stands : slice_get bios place ≡ Some bio
  pub named : bio.id ≡ id
  pub other : id.submitter ≢ number
  pub first : (k : ℕ) (earlier : Bio) → k < place → slice_get bios k ≡ Some earlier → earlier.id.submitter ≡ number

-- bios that may be accepted: all of the submitter, and no id stands twice
pub record CanAccept (seat : SubmitterSeat) (bios : List Bio) : Type 0 where
  pub own : AreOwn seat.number bios
  pub once : AreOnce (seat.accepted ++ bios)

-- the rules of a request that is flushed, in the order in which they are looked at, before that there is room in the software queue
abbrev pub flush_rules : SubmitterSeat → List Bio → List (Type 0)
flush_rules seat bios = AreOwn seat.number bios ∷ AreOnce (seat.accepted ++ bios) ∷ []

-- what each reason says of the request. Whether the software queue has room is known under its lock alone
abbrev pub IsFlushReason : SubmitterSeat → List Bio → FlushReason → Type 0
IsFlushReason seat bios (Foreign id) = BreaksFirst (flush_rules seat bios) 0 (IsFirstForeign seat.number bios id)
IsFlushReason seat bios (Repeated id) = BreaksFirst (flush_rules seat bios) 1 (IsFirstRepeatedBio seat.accepted bios id)
IsFlushReason seat bios SoftFull = CanAccept seat bios
IsFlushReason seat bios Memory = CanAccept seat bios

-- the first request that is left in the plug is refused for this reason
pub record IsLeft (seat : SubmitterSeat) (plug : Plug) (why : FlushReason) : Type 0 where
  pub first : List Bio
  pub stands : slice_get plug.requests 0 ≡ Some first
  pub reason : IsFlushReason seat first why

-- the requests that were taken stand at the back of the software queue, in their order, and it counts their bios
pub record FlushesInto (queue : Queue) (seat : SubmitterSeat) (plug : Plug) (new_queue : Queue) (new_seat : SubmitterSeat) (new_plug : Plug) : Type 0 where
  pub flushes : Flushes seat plug new_seat new_plug
  pub put : new_queue ≡ record queue { requests = queue.requests ++ flushes.taken; bios_in = queue.bios_in + length (flat_map (λ request. request) flushes.taken) }

-- the software queue has room for a request: for one more, and it takes in no more bios over its life than it may
abbrev pub QueueHasRoom : Queue → List Bio → Type 0
QueueHasRoom queue bios = (length queue.requests < queue.depth) × (queue.bios_in + length bios ≤ MAX_BIOS)

-- what each reason says of the room for the request: it is looked for before memory is
abbrev pub IsRoomReason : Queue → List Bio → FlushReason → Type 0
IsRoomReason queue bios (Foreign id) = ⊤
IsRoomReason queue bios (Repeated id) = ⊤
IsRoomReason queue bios SoftFull = (queue.depth ≤ length queue.requests) ⊎ (MAX_BIOS < queue.bios_in + length bios)
IsRoomReason queue bios Memory = QueueHasRoom queue bios

-- the same of the first request of a plug
abbrev pub IsFirstRoomReason : Queue → Plug → FlushReason → Type 0
IsFirstRoomReason queue plug why = (first : List Bio) → slice_get plug.requests 0 ≡ Some first → IsRoomReason queue first why

-- the submitter of a request, by its first bio
abbrev pub submitter_of : List Bio → ℕ
submitter_of [] = 0
submitter_of (first ∷ later) = first.id.submitter

-- the hardware queue that a map has for the submitter of a request, or a number of none where it has no such submitter
abbrev pub queue_of : List ℕ → List Bio → ℕ
queue_of map bios = slice_index_or map (submitter_of bios) MAX_QUEUES

-- each request is of one submitter, and the map has a hardware queue for it
abbrev pub AreMapped : List ℕ → List (List Bio) → Type 0
AreMapped map requests = (k : ℕ) (bios : List Bio) → slice_get requests k ≡ Some bios → AreOwn (submitter_of bios) bios × (submitter_of bios < length map)

-- the first request of the queue is released for its hardware queue by the map, and leaves the queue
pub record MovesFirst (serves : ℕ → Waiting → Bool) (queue : Queue) (core : CoreState) (map : List ℕ) (new_queue : Queue) (new_core : CoreState) : Type 0 where
  pub first : List Bio
  pub placed : Placed
  pub stood : queue.requests ≡ first ∷ new_queue.requests
  pub can : CanRelease core first (queue_of map first)
  pub places : Places serves core first (queue_of map first) placed new_core
  pub left : new_queue ≡ record queue { requests = new_queue.requests; bios_out = queue.bios_out + length first }

-- the first request of the queue can't be released for its hardware queue by the map, for this reason
pub record IsMoveFault (queue : Queue) (core : CoreState) (map : List ℕ) (why : CoreFault) : Type 0 where
  pub first : List Bio
  pub later : List (List Bio)
  pub stands : queue.requests ≡ first ∷ later
  pub fault : IsReleaseFault core first (queue_of map first) why

-- what each answer of a move says of the queue and the core before and after it
abbrev pub IsMoveAnswer : (ℕ → Waiting → Bool) → Queue → CoreState → List ℕ → Queue → CoreState → Result Bool CoreFault → Type 0
IsMoveAnswer serves queue core map new_queue new_core (Ok true) = MovesFirst serves queue core map new_queue new_core
IsMoveAnswer serves queue core map new_queue new_core (Ok false) = (queue.requests ≡ []) × (new_queue ≡ queue) × (new_core ≡ core)
IsMoveAnswer serves queue core map new_queue new_core (Err why) =
    IsMoveFault queue core map why × (new_queue ≡ queue) × (new_core ≡ core)

-- this many requests of the queue were moved into the core, one after the other, each the first of what was left
unfoldable pub MovesSome : (ℕ → Waiting → Bool) → Queue → CoreState → List ℕ → ℕ → Queue → CoreState → Type 0
MovesSome serves queue core map zero new_queue new_core = (new_queue ≡ queue) × (new_core ≡ core)
MovesSome serves queue core map (suc n) new_queue new_core =
    (between : Queue) × ((after : CoreState) × MovesSome serves queue core map n between after × MovesFirst serves between after map new_queue new_core)

-- what each answer of `move_all` says: which requests were moved, and how many; and why the next one was refused
abbrev pub IsMoveAllAnswer : (ℕ → Waiting → Bool) → Queue → CoreState → List ℕ → Queue → CoreState → Result ℕ DrainFault → Type 0
IsMoveAllAnswer serves queue core map new_queue new_core (Ok moved) =
    MovesSome serves queue core map moved new_queue new_core × (moved ≡ length queue.requests) × (new_queue.requests ≡ [])
IsMoveAllAnswer serves queue core map new_queue new_core (Err fault) =
    MovesSome serves queue core map fault.moved new_queue new_core × (fault.moved + length new_queue.requests ≡ length queue.requests) × IsMoveFault new_queue new_core map fault.why
