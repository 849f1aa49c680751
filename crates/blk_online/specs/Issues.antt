-- What waits, read as each command goes out in place of as its round ends: too little, as a trace shows.
use Rattle.std.specs.Prelude.{ℕ, ◌≡◌, ◌≤◌, List, [], ◌∷◌, Some, take}
use Rattle.blk_bio.specs.declared.bio.Dir.TheVariants.{Read, Write}
use Rattle.blk_bio.specs.Bios.{Bio}
use Rattle.edd_oracle.specs.Priority.{ComesFirst}
use Rattle.blk_trace.specs.Happened.{Happened}
use Rattle.blk_trace.specs.declared.event.Event.TheVariants.{Tick, Release, Issue, Done}
use Rattle.blk_trace.specs.Setups.{Setup}
use Rattle.blk_trace.specs.Events.{At, round_of}
use Rattle.blk_trace.specs.Meaning.{due_of, command_of}
use Rattle.blk_trace.specs.Waits.{Entered, waits_at}
use Rattle.blk_online.specs.Ticks.{IsRoundFull}

-- where a request waits as a round ends, the round is full; and each command comes first of all that waits as it goes out
pub record IsEarliestAtIssues (setup : Setup) (events : List Happened) : Type 0 where
  pub full : (k id : ℕ) (w : Entered) → At events k Tick → waits_at setup (take k events) id ≡ Some w → IsRoundFull setup (take k events)
  pub due_first : (k i tag id : ℕ) (w : Entered) → At events k (Issue i tag) → waits_at setup (take k events) id ≡ Some w → ComesFirst (command_of setup (take k events) i) (command_of setup (take k events) id)

-- the same, where that request is due in the round that is on or later, as the command then is too
pub record ServesOnTimeAtIssues (setup : Setup) (events : List Happened) : Type 0 where
  pub full : (k id : ℕ) (w : Entered) → At events k Tick → waits_at setup (take k events) id ≡ Some w → round_of (take k events) ≤ w.due → IsRoundFull setup (take k events)
  pub due_first : (k i tag id : ℕ) (w : Entered) → At events k (Issue i tag) → waits_at setup (take k events) id ≡ Some w → round_of (take k events) ≤ w.due → (round_of (take k events) ≤ due_of setup (take k events) i) × ComesFirst (command_of setup (take k events) i) (command_of setup (take k events) id)

-- one tag and one hardware queue; reads are due at once, and writes nine rounds on
abbrev pub one_tag : Setup
one_tag = record { depth = 1; hw = 1; read_expire = 0; write_expire = 9; limits = record { max_sectors = 256; max_segments = 128 } }

abbrev pub write : Bio
write = record { id = record { submitter = 0; serial = 0 }; dir = Write; first = 0; sectors = 8 }

abbrev pub read : Bio
read = record { id = record { submitter = 0; serial = 1 }; dir = Read; first = 100; sectors = 8 }

-- a write goes out while nothing else waits; a read comes in, is due sooner, and goes out in the next round
abbrev pub read_too_late : List Happened
read_too_late = Release 0 (write ∷ []) ∷ Issue 0 0 ∷ Release 1 (read ∷ []) ∷ Done 0 ∷ Tick ∷ Issue 1 0 ∷ []
