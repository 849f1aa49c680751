-- Requests as a table: an answer of rows.
use Rattle.std.specs.Prelude.{ℕ, ◌∷◌, [], Bool, true, List, Option, None, Some, map}
use Rattle.answer.specs.declared.names.TheConstants as names
use Rattle.answer.specs.declared.value.Value.{Value}
use Rattle.answer.specs.declared.value.Value.TheVariants.{Count, Text, Nothing}
use Rattle.answer.specs.declared.answer.Part.{Part}
use Rattle.answer.specs.declared.answer.Part.TheVariants.{Rows}
use Rattle.answer.specs.Parts.{record_columns}
use Rattle.answer.specs.Lines.{answer_lines}
use Rattle.blk_bio.specs.declared.bio.Dir.{Dir}
use Rattle.blk_bio.specs.declared.bio.Dir.TheVariants as dir
use Rattle.blk_capture.specs.declared.table.RequestRow.{RequestRow}

abbrev pub direction_value : Dir → Value
direction_value dir.Read = Text names.READS.now
direction_value dir.Write = Text names.WRITES.now

-- a number, or nothing where it is not known
abbrev pub known_value : Option ℕ → Value
known_value None = Nothing []
known_value (Some n) = Count n

-- the id, the direction, the first sector, how many sectors and bios, and the process; when it was queued, inserted, dispatched and completed,
-- and by when it was due
abbrev pub table_names : List (List ℕ)
table_names =
    names.ID.now ∷ names.DIR.now ∷ names.FIRST.now ∷ names.SECTORS.now ∷ names.BIOS.now ∷ names.PID.now
    ∷ names.QUEUED.now ∷ names.INSERTED.now ∷ names.DISPATCHED.now ∷ names.COMPLETED.now ∷ names.DUE.now ∷ []

abbrev pub table_row : RequestRow → List Value
table_row r =
    Count r.id ∷ direction_value r.dir ∷ Count r.first ∷ Count r.sectors ∷ Count r.bios ∷ Count r.pid
    ∷ Count r.queued ∷ known_value r.inserted ∷ Count r.dispatched ∷ known_value r.completed ∷ Count r.due ∷ []

-- the rows of requests, behind a head line or without
abbrev pub table_parts : Bool → List RequestRow → List Part
table_parts head rows = Rows (record { name = names.REQUESTS.now; columns = record_columns table_names; head = head; rows = map table_row rows }) ∷ []

unfoldable pub table_lines : List RequestRow → List ℕ
table_lines rows = answer_lines (table_parts true rows)
