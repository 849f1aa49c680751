-- A record of a capture: seconds, nanoseconds, processor, action, process, rwbs, first sector, sectors.
use Rattle.std.specs.Prelude.{◌≡◌, ◌≤◌, ◌+◌, ◌*◌, ℕ, List, [], ◌∷◌, length, get_or}
use Rattle.std.specs.Str.Parse.{digits_value}
use Rattle.edd_commands.specs.Order.{IsFirstFault}
use Rattle.blk_capture.specs.Passing.{action_by, op_by}
use Rattle.blk_capture.specs.declared.record.Record.{Record}
use Rattle.blk_records.specs.Sources.{Row}
use Rattle.blk_records.specs.Fields.{EachField, IsNumber, IsInRange}
use Rattle.blk_records.specs.declared.fault.TextReason.{TextReason}
use Rattle.blk_records.specs.declared.fault.TextReason.TheVariants as why
use Rattle.blk_capture_text.specs.declared.record.TheConstants.{RECORD, WIDTH}

-- the number of a field
abbrev pub number_at : ℕ → Row → ℕ
number_at k cells = digits_value 10 (get_or cells k [])

-- the time of a record, in nanoseconds
abbrev pub time_at : Row → ℕ
time_at cells = number_at 0 cells * 1_000_000_000 + number_at 1 cells

-- what a record tells
abbrev pub record_at : Row → Record
record_at cells = record {
  time = time_at cells;
  cpu = number_at 2 cells;
  action = action_by (get_or cells 3 []);
  pid = number_at 4 cells;
  op = op_by (get_or cells 5 []);
  first = number_at 6 cells;
  sectors = number_at 7 cells;
}

-- a record that may stand after one of a time
pub record IsRecordAfter (last : ℕ) (cells : Row) : Type 0 where
  pub width : length cells ≡ WIDTH
  pub numbers : EachField IsNumber RECORD cells
  pub ranges : EachField IsInRange RECORD cells
  pub order : last ≤ time_at cells

-- the rules of a record, in the order in which they are looked at, each with its fault; its nanoseconds are one of its numbers
abbrev pub capture_rules : ℕ → Row → List (Type 0 × TextReason)
capture_rules last cells =
    (length cells ≡ WIDTH, why.Fields)
    ∷ (EachField IsNumber RECORD cells, why.Number)
    ∷ (EachField IsInRange RECORD cells, why.Range)
    ∷ (last ≤ time_at cells, why.Order) ∷ []

-- the first thing that a record lacks
abbrev pub RecordLacks : ℕ → Row → TextReason → Type 0
RecordLacks last cells = IsFirstFault (capture_rules last cells)
