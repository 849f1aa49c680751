-- What is said of each late request.
use Rattle.std.specs.Prelude.{ℕ, List, [], ◌∷◌, Option, None, Some, map, true}
use Rattle.answer.specs.declared.names.TheConstants as names
use Rattle.answer.specs.declared.value.Value.{Value}
use Rattle.answer.specs.declared.value.Value.TheVariants.{Count, Text, Nothing, Time}
use Rattle.answer.specs.declared.cells.Column.{Column}
use Rattle.answer.specs.declared.answer.Part.{Part}
use Rattle.answer.specs.declared.answer.Part.TheVariants.{Rows}
use Rattle.answer.specs.Parts.{record_columns}
use Rattle.blk_bio.specs.declared.bio.Dir.{Dir}
use Rattle.blk_bio.specs.declared.bio.Dir.TheVariants.{Read, Write}
use Rattle.blk_capture.specs.Tables.{since}
use Rattle.blk_capture.specs.declared.requests.CapturedRequest.{CapturedRequest}
use Rattle.edd_blame.specs.declared.late.Cause.{Cause}
use Rattle.edd_blame.specs.declared.late.Cause.TheVariants.{Arrival, Stall, Spare, Full}
use Rattle.blk_blame.specs.declared.each.LateRequest.{LateRequest}
use Rattle.blk_blame.specs.Answers.{time_after, time_of_dispatch, time_between}
use Rattle.blk_blame.specs.Flying.{in_flight_from}

abbrev pub dir_value : Dir → Value
dir_value Read = Text names.READS.now
dir_value Write = Text names.WRITES.now

abbrev pub cause_value : Cause → Value
cause_value Arrival = Text names.ARRIVAL.now
cause_value Stall = Text names.STALL.now
cause_value Spare = Text names.SPARE.now
cause_value (Full w) = Text names.FULL.now

-- of one that came in late its deadline, and when its last bio came in; of one that stalled when the dispatches before and after its time were; of
-- one whose window is full its first and last
abbrev pub from_by : ℕ → List CapturedRequest → LateRequest → Cause → Option ℕ
from_by begin requests l Arrival = Some (since begin l.deadline)
from_by begin requests l Stall = time_of_dispatch begin requests l.command.due
from_by begin requests l Spare = None
from_by begin requests l (Full w) = time_of_dispatch begin requests w.from

abbrev pub until_by : ℕ → List CapturedRequest → LateRequest → Cause → Option ℕ
until_by begin requests l Arrival = Some (since begin l.released)
until_by begin requests l Stall = time_after begin requests l.command.due
until_by begin requests l Spare = None
until_by begin requests l (Full w) = time_of_dispatch begin requests w.due

-- the numbers of the first and the last dispatch of a full window
abbrev pub first_number_by : Cause → Option ℕ
first_number_by Arrival = None
first_number_by Stall = None
first_number_by Spare = None
first_number_by (Full w) = Some w.from

abbrev pub last_number_by : Cause → Option ℕ
last_number_by Arrival = None
last_number_by Stall = None
last_number_by Spare = None
last_number_by (Full w) = Some w.due

-- and how many were at the device when its stall began
abbrev pub flying_by : List CapturedRequest → Cause → ℕ → Option ℕ
flying_by requests Arrival due = None
flying_by requests Stall due = Some (in_flight_from requests due)
flying_by requests Spare due = None
flying_by requests (Full w) due = None

abbrev pub gap_from : ℕ → List CapturedRequest → LateRequest → Option ℕ
gap_from begin requests l = from_by begin requests l l.cause

abbrev pub gap_until : ℕ → List CapturedRequest → LateRequest → Option ℕ
gap_until begin requests l = until_by begin requests l l.cause

abbrev pub gap_length : ℕ → List CapturedRequest → LateRequest → Option ℕ
gap_length begin requests l = time_between (gap_from begin requests l) (gap_until begin requests l)

abbrev pub first_number : LateRequest → Option ℕ
first_number l = first_number_by l.cause

abbrev pub last_number : LateRequest → Option ℕ
last_number l = last_number_by l.cause

abbrev pub gap_flying : List CapturedRequest → LateRequest → Option ℕ
gap_flying requests l = flying_by requests l.cause l.command.due

abbrev pub spoken : Option ℕ → Value
spoken None = Nothing []
spoken (Some n) = Time n

abbrev pub number_spoken : Option ℕ → Value
number_spoken None = Nothing []
number_spoken (Some n) = Count n

abbrev pub each_columns : List Column
each_columns = record_columns (names.ID.now ∷ names.PID.now ∷ names.DIR.now ∷ names.FIRST.now ∷ names.SECTORS.now ∷ names.WAIT.now ∷ names.OVERRUN.now ∷ names.CAUSE.now ∷ names.FROM.now ∷ names.UNTIL.now ∷ names.LENGTH.now ∷ names.FROM_ID.now ∷ names.UNTIL_ID.now ∷ names.IN_FLIGHT.now ∷ [])

abbrev pub each_row : ℕ → List CapturedRequest → LateRequest → List Value
each_row begin requests l =
    Count l.command.id ∷ Count l.pid ∷ dir_value l.dir ∷ Count l.first ∷ Count l.sectors ∷ Time l.wait ∷ Time l.overrun ∷ cause_value l.cause
    ∷ spoken (gap_from begin requests l) ∷ spoken (gap_until begin requests l) ∷ spoken (gap_length begin requests l) ∷ number_spoken (first_number l) ∷ number_spoken (last_number l) ∷ number_spoken (gap_flying requests l) ∷ []

abbrev pub each_part : ℕ → List CapturedRequest → List LateRequest → Part
each_part begin requests lates = Rows (record { name = names.LATE.now; columns = each_columns; head = true; rows = map (each_row begin requests) lates })
