-- What went out in a round, and what waits as it ends.
use Rattle.std.specs.Prelude.{ℕ, ◌≡◌, ◌≤◌, List, Some, slice_get, take}
use Rattle.edd_commands.specs.Schedule.{places_at}
use Rattle.edd_oracle.specs.Priority.{ComesFirst}
use Rattle.blk_trace.specs.Happened.{Happened}
use Rattle.blk_trace.specs.declared.event.Event.TheVariants.{Tick}
use Rattle.blk_trace.specs.Setups.{Setup}
use Rattle.blk_trace.specs.Events.{At, round_of}
use Rattle.blk_trace.specs.Depths.{depth_now}
use Rattle.blk_trace.specs.Legal.{IsLegalTrace}
use Rattle.blk_trace.specs.Meaning.{served, rounds_of, due_of, command_of}
use Rattle.blk_trace.specs.Waits.{Entered, waits_at}

-- the id went out in the round, by an Issue that was not requeued
abbrev pub WentOut : List Happened → ℕ → ℕ → Type 0
WentOut events round id = (k : ℕ) × (slice_get (served 0 events) k ≡ Some (round, id))

-- in the round that is on as many went out as it carries
abbrev pub IsRoundFull : Setup → List Happened → Type 0
IsRoundFull setup events = places_at (rounds_of events) (round_of events) ≡ depth_now setup events

-- where a request waits, the round that is on is full, and of requests that come first
pub record IsEarliestNow (setup : Setup) (events : List Happened) : Type 0 where
  pub full : (id : ℕ) (w : Entered) → waits_at setup events id ≡ Some w → IsRoundFull setup events
  pub due_first : (id i : ℕ) (w : Entered) → waits_at setup events id ≡ Some w → WentOut events (round_of events) i → ComesFirst (command_of setup events i) (command_of setup events id)

-- the same, where that request is due in the round that is on or later, as those that went out are then too
pub record ServesOnTimeNow (setup : Setup) (events : List Happened) : Type 0 where
  pub full : (id : ℕ) (w : Entered) → waits_at setup events id ≡ Some w → round_of events ≤ w.due → IsRoundFull setup events
  pub due_first : (id i : ℕ) (w : Entered) → waits_at setup events id ≡ Some w → round_of events ≤ w.due → WentOut events (round_of events) i → (round_of events ≤ due_of setup events i) × ComesFirst (command_of setup events i) (command_of setup events id)

-- it holds as each round ends: of the events before each Tick
abbrev pub AtTicks : (List Happened → Type 0) → List Happened → Type 0
AtTicks P events = (k : ℕ) → At events k Tick → P (take k events)

-- a legal trace of which it holds as each round ends that the earliest due went first, and one of which it holds of what can still be on time
abbrev pub IsEarliestTrace : Setup → List Happened → Type 0
IsEarliestTrace setup events = IsLegalTrace setup events × AtTicks (IsEarliestNow setup) events

abbrev pub IsOnTimeFirstTrace : Setup → List Happened → Type 0
IsOnTimeFirstTrace setup events = IsLegalTrace setup events × AtTicks (ServesOnTimeNow setup) events
