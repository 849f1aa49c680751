-- What the calls of a core do.
use Rattle.std.specs.Prelude.{ℕ, ◌+◌, ◌-◌, ◌≡◌, ◌<◌, ◌⊎◌, ◌++◌, ◌∷◌, [], Bool, List, Option, None, Some, slice_get, slice_set}
use Rattle.std.specs.FinMap as map
use Rattle.blk_bio.specs.Bios.{Bio}
use Rattle.blk_bio.specs.Requests.{dir_of}
use Rattle.blk_bio.specs.Extents.{extent_of}
use Rattle.edd_commands.specs.declared.Command.{Command}
use Rattle.blk_trace.specs.Setups.{expire_of}
use Rattle.blk_trace.specs.Happened.{Happened}
use Rattle.blk_trace.specs.declared.event.Event.TheVariants.{Tick, Release, Join, Issue, Done, Back, Depth}
use Rattle.blk_trace.specs.Events.{round_of, open_count}
use Rattle.blk_trace.specs.Meaning.{commands_of}
use Rattle.blk_trace.specs.Waits.{released_count}
use Rattle.blk_sched.specs.Meaning.{Waiting, Meaning, HasNoCandidate, ServesNothing, Picks, RequeuesPick, Joins, opened}
use Rattle.blk_sched.specs.Policies.{Choice, OfDone, OfTick}
use Rattle.blk_queues.specs.Requeued.{requeued_in, requeued_total}
use Rattle.blk_core.specs.declared.calls.Placed.{Placed}
use Rattle.blk_core.specs.declared.calls.Placed.TheVariants.{New, Joined as JoinedTo}
use Rattle.blk_core.specs.State.{Flight, CoreState, InFlightAs}

-- one more event, and nothing else in the trace
abbrev pub AddsEvent : CoreState → Happened → CoreState → Type 0
AddsEvent old event new = (new.setup ≡ old.setup) × (new.events ≡ old.events ++ event ∷ [])

-- how a request enters the scheduler: with the round as its release, and due when its direction's expiry has passed
abbrev pub newcomer : CoreState → List Bio → ℕ → Waiting
newcomer c bios hw = record {
  id = released_count c.events;
  hw = hw;
  release = round_of c.events;
  due = round_of c.events + expire_of c.setup (dir_of bios);
  extent = extent_of bios;
}

-- what a release does: a Join of the candidate where there is one, and else a Release
abbrev pub Places : (ℕ → Waiting → Bool) → CoreState → List Bio → ℕ → Placed → CoreState → Type 0
Places serves old bios hw (New id) new =
    HasNoCandidate serves hw old.setup.limits (extent_of bios) old.meaning
    × (id ≡ released_count old.events)
    × AddsEvent old (Release id bios) new
    × (new.meaning ≡ record old.meaning { pending = map.insert old.meaning.pending id (newcomer old bios hw) })
    × (new.kept ≡ old.kept)
    × (new.flights ≡ old.flights)
    × (new.requeued ≡ old.requeued)
Places serves old bios hw (JoinedTo id side) new =
    Joins serves hw (round_of old.events) old.setup.limits (extent_of bios) old.meaning id side new.meaning
    × AddsEvent old (Join id bios) new
    × (new.kept ≡ old.kept)
    × (new.flights ≡ old.flights)
    × (new.requeued ≡ old.requeued)

-- which request goes to the device for a hardware queue: the first of those that are requeued for it, whose pick is then open again,
-- or, where none is requeued for it, the one that the scheduler chooses in this round
abbrev pub SendsFrom : (ℕ → Waiting → Bool) → Choice → ℕ → ℕ → List Waiting → Meaning → List ℕ → List (List Waiting) → Waiting → Meaning → List ℕ → List (List Waiting) → Type 0
SendsFrom serves chooses hw round [] m kept requeue_lists w new_m new_kept new_lists =
    Picks serves hw m w new_m × chooses kept m hw round (Some w) new_kept × (new_lists ≡ requeue_lists)
SendsFrom serves chooses hw round (first ∷ rest) m kept requeue_lists w new_m new_kept new_lists =
    (first ≡ w) × RequeuesPick w.extent.dir new_m m × (new_kept ≡ kept) × (new_lists ≡ slice_set requeue_lists hw rest)

-- the same of a core, before and after
abbrev pub Sends : (ℕ → Waiting → Bool) → Choice → CoreState → ℕ → Waiting → CoreState → Type 0
Sends serves chooses old hw w new =
    SendsFrom serves chooses hw (round_of old.events) (requeued_in old.requeued hw) old.meaning old.kept old.requeued w new.meaning new.kept new.requeued

-- what an issue does: an Issue of the request that goes to the device, whose command is then the last one and in flight under the
-- tag; or nothing, where none is requeued for the hardware queue and the scheduler chose none for it in this round
abbrev pub Issues : (ℕ → Waiting → Bool) → Choice → CoreState → ℕ → ℕ → Option Command → CoreState → Type 0
Issues serves chooses old hw tag None new =
    (new ≡ old)
    × (requeued_in old.requeued hw ≡ [])
    × chooses old.kept old.meaning hw (round_of old.events) None old.kept
    × ((0 < open_count old.events) ⊎ (0 < requeued_total old.requeued) ⊎ ServesNothing serves hw old.meaning)
Issues serves chooses old hw tag (Some command) new =
    (w : Waiting) × Sends serves chooses old hw w new
    × AddsEvent old (Issue w.id tag) new
    × (command ≡ record { id = w.id; release = w.release; due = w.due })
    × (commands_of new.setup new.events ≡ commands_of old.setup old.events ++ command ∷ [])
    × (new.flights ≡ slice_set old.flights tag (Some (record { hw = hw; request = w })))

-- what a completion does: a Done of the command in flight, whose pick is then closed; the scheduler hears of the hardware queue that
-- it was issued for, its direction, and the rounds from its release to its Issue, which is of this round
abbrev pub Completes : OfDone → CoreState → ℕ → CoreState → Type 0
Completes told old tag new =
    (f : Flight) × (slice_get old.flights tag ≡ Some (Some f))
    × InFlightAs old.setup old.events tag f.request
    × AddsEvent old (Done tag) new
    × (old.meaning ≡ record new.meaning { open_picks = opened f.request.extent.dir new.meaning.open_picks })
    × told f.hw f.request.extent.dir (round_of old.events - f.request.release) old.kept new.kept
    × (new.flights ≡ slice_set old.flights tag None)
    × (new.requeued ≡ old.requeued)

-- what a Back does: the command in flight under the tag is requeued, and so is its pick; its request is as it was
-- picked, behind those requeued before from the hardware queue that it was issued for
abbrev pub RequeuesTag : CoreState → ℕ → ℕ → CoreState → Type 0
RequeuesTag old tag id new =
    (f : Flight) × (slice_get old.flights tag ≡ Some (Some f))
    × InFlightAs old.setup old.events tag f.request
    × (id ≡ f.request.id)
    × AddsEvent old (Back tag) new
    × RequeuesPick f.request.extent.dir old.meaning new.meaning
    × (new.kept ≡ old.kept)
    × (new.flights ≡ slice_set old.flights tag None)
    × (new.requeued ≡ slice_set old.requeued f.hw (requeued_in old.requeued f.hw ++ f.request ∷ []))

-- what the end of a round does: a Tick; the scheduler hears, once, of the round that begins
abbrev pub Ends : OfTick → CoreState → CoreState → Type 0
Ends told old new =
    AddsEvent old Tick new
    × (new.meaning ≡ old.meaning)
    × told (round_of new.events) old.kept new.kept
    × (new.flights ≡ old.flights)
    × (new.requeued ≡ old.requeued)

-- what a new depth does: a Depth, and nothing else; it is in force from the next round on
abbrev pub SetsDepth : CoreState → ℕ → CoreState → Type 0
SetsDepth old depth new =
    AddsEvent old (Depth depth) new
    × (new.meaning ≡ old.meaning)
    × (new.kept ≡ old.kept)
    × (new.flights ≡ old.flights)
    × (new.requeued ≡ old.requeued)
