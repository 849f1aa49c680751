-- The records of a capture while they are read.
use Rattle.std.specs.Prelude.{◌≡◌, List, map, Option}
use Rattle.blk_capture.specs.declared.record.Record.{Record}
use Rattle.blk_records.specs.Sources.{Row}
use Rattle.blk_records.specs.Reads.{ReadsAll}
use Rattle.blk_capture_text.specs.Recorded.{record_at}
use Rattle.blk_capture_text.specs.Captures.{last_time, records_body}
use Rattle.blk_capture_text.specs.declared.reading.RecordsRead.{RecordsRead}

-- the records of these rows, and the time of the last
abbrev pub HasRecords : RecordsRead → List Row → Type 0
HasRecords s rows = (s.records.items ≡ map record_at rows) × (s.last ≡ last_time rows)

-- rows of which these are the records
abbrev pub HaveRows : RecordsRead → Type 0
HaveRows s = (rows : List Row) × HasRecords s rows

-- the records are those of all rows that were left
abbrev pub TellAll : Option (List Row) → List Record → Type 0
TellAll left records = (rows : List Row) × (records ≡ map record_at rows) × ReadsAll records_body left rows
