-- A capture: a title, and a record for each step of the block layer.
use Rattle.std.specs.Prelude.{◌≡◌, ℕ, List, [], ◌∷◌, map}
use Rattle.blk_capture.specs.declared.record.Record.{Record}
use Rattle.blk_records.specs.Sources.{Row}
use Rattle.blk_records.specs.Reads.{items_of}
use Rattle.blk_records.specs.Titles.{title_record}
use Rattle.blk_records.specs.declared.fault.TextReason.{TextReason}
use Rattle.blk_records.specs.declared.fault.TextReason.TheVariants as why
use Rattle.text_grammar.specs.declared.Repeats.TheVariants as repeats
use Rattle.text_grammar.specs.Parts.{Part, record_of, then, Spells}
use Rattle.blk_capture_text.specs.Recorded.{time_at, record_at, IsRecordAfter, RecordLacks}
use Rattle.blk_capture_text.specs.declared.reading.TheConstants.{CAPTURE, MAX_RECORDS}

-- title: blk-capture, version, six empty fields
abbrev pub capture_title_part : Part Row TextReason (ℕ × Unit {0})
capture_title_part = title_record CAPTURE [] (λ _ _. Unit {0})

-- the time of the last of some records, 0 before the first
abbrev pub last_time : List Row → ℕ
last_time [] = 0
last_time (row ∷ []) = time_at row
last_time (row ∷ next ∷ rows) = last_time (next ∷ rows)

-- a record after those before it, by its row
abbrev pub record_after : List Row → Part Row TextReason Row
record_after before = record_of (λ row. row) (IsRecordAfter (last_time before)) why.Count (RecordLacks (last_time before))

-- records, at most this number, to the end of the text
abbrev pub records_body : Part Row TextReason (List Row)
records_body = items_of (repeats.AtMost MAX_RECORDS) record_after

-- a title, and records whose times don't fall
abbrev pub capture_form : Part Row TextReason ((ℕ × Unit {0}) × List Row)
capture_form = then capture_title_part (λ _. records_body)

-- the rows of a capture of these records, each as its row
abbrev pub capture_rows : List Row → List Row
capture_rows body = capture_form.rows_of ((CAPTURE.latest, tt), body)

-- the rows are those of a capture
abbrev pub AreCapture : List Row → List Row → Type 0
AreCapture rows body = Spells capture_form rows ((CAPTURE.latest, tt), body)

-- the rows spell these records; and those that these body tell
abbrev pub SpellsCapture : List Row → List Record → Type 0
SpellsCapture rows records = (body : List Row) × (records ≡ map record_at body) × AreCapture rows body

abbrev pub TellsRecords : List Row → List Row → Type 0
TellsRecords rows body = SpellsCapture rows (map record_at body)

-- rows that, behind a title, make a capture
abbrev pub MakeCapture : List Row → Type 0
MakeCapture body = AreCapture (capture_rows body) body

-- the first fault of a capture
abbrev pub CaptureTextFault : List Row → ℕ → TextReason → Type 0
CaptureTextFault = capture_form.Wrong
