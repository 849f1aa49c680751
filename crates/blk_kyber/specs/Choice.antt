-- What kyber serves and picks, over the plain list of what waits by rising id.
pub use Rattle.blk_sched.specs.Meaning.{serves_own, is_same}
use Rattle.std.specs.Prelude.{ℕ, ◌+◌, ◌&&◌, nat_lt, Bool, true, false, List, Option, None, Some, is_some, if◌then◌else◌}
use Rattle.std.specs.List.{find}
use Rattle.blk_bio.specs.declared.bio.Dir.{Dir}
use Rattle.blk_bio.specs.declared.bio.Dir.TheVariants.{Read, Write}
use Rattle.blk_sched.specs.Meaning.{Waiting, OpenPicks, open_of, requeued_of}
use Rattle.blk_kyber.specs.declared.turn.Turn.{Turn}
use Rattle.blk_kyber.specs.declared.turn.TheConstants.{READ_BATCH, WRITE_BATCH}
use Rattle.blk_kyber.specs.Limits.{DirLimits, limit_of}

-- the other direction, and how many requests of a direction go in one turn
abbrev pub other_of : Dir → Dir
other_of Read = Write
other_of Write = Read

abbrev pub cap_of : Dir → ℕ
cap_of Read = READ_BATCH
cap_of Write = WRITE_BATCH

-- at first it is the turn of reads, and none went
abbrev pub first_turn : Turn
first_turn = record { dir = Read; taken = 0 }

-- the turn by the four rules, by whether its own direction can be picked and whether the other one can: below its cap the
-- turn goes on; else the other direction's turn comes; else it begins again; else nothing is picked
abbrev pub turn_by : Turn → Bool → Bool → Option Turn
turn_by turn true other =
    if nat_lt turn.taken (cap_of turn.dir) then Some (record { dir = turn.dir; taken = turn.taken + 1 })
    else (if other then Some (record { dir = other_of turn.dir; taken = 1 }) else Some (record { dir = turn.dir; taken = 1 }))
turn_by turn false true = Some (record { dir = other_of turn.dir; taken = 1 })
turn_by turn false false = None

-- the oldest request of a direction at a hardware queue
abbrev pub oldest_for : ℕ → Dir → List Waiting → Option Waiting
oldest_for hw dir ws = find (λ w. serves_own hw w && is_same w.extent.dir dir) ws

-- how many requests of a direction are in flight: picked and not done, the requeued ones among them
abbrev pub in_flight : Dir → OpenPicks → ℕ
in_flight dir picks = open_of dir picks + requeued_of dir picks

-- what a pick takes of a direction: its oldest request, while fewer than its limit are in flight
abbrev pub head_of : ℕ → DirLimits → OpenPicks → List Waiting → Dir → Option Waiting
head_of hw limits picks ws dir = if nat_lt (in_flight dir picks) (limit_of dir limits) then oldest_for hw dir ws else None

-- a request with the turn in which it goes
abbrev pub taken_in : Turn → Option Waiting → Option (Waiting × Turn)
taken_in turn None = None
taken_in turn (Some w) = Some (w, turn)

abbrev pub taken_by : Option Turn → (Dir → Option Waiting) → Option (Waiting × Turn)
taken_by None head = None
taken_by (Some turn) head = taken_in turn (head turn.dir)

-- by the heads of both directions
abbrev pub choice_by : Turn → (Dir → Option Waiting) → Option (Waiting × Turn)
choice_by turn head = taken_by (turn_by turn (is_some (head turn.dir)) (is_some (head (other_of turn.dir)))) head

-- the choice: a function of the turn of the hardware queue, the limits, what is in flight and what waits
abbrev pub kyber_choice : ℕ → Turn → DirLimits → OpenPicks → List Waiting → Option (Waiting × Turn)
kyber_choice hw turn limits picks ws = choice_by turn (head_of hw limits picks ws)

-- what is handed out
abbrev pub chosen : Option (Waiting × Turn) → Option Waiting
chosen None = None
chosen (Some x) = Some x.0
