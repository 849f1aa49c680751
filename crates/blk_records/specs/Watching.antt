-- A reader that knows whether a read has failed.
use Rattle.std.specs.Prelude.{◌≡◌, ℕ, Bool, false, List, Option, None, option_and_then}
use Rattle.std.specs.Option.{option_map_or}
use Rattle.csv.specs.Reading.{reader_source}
use Rattle.blk_records.specs.Sources.{Row, Source, left_of, input_of}
use Rattle.blk_records.specs.declared.source.Input.{Input}
use Rattle.blk_records.specs.declared.source.Input.TheVariants as input
use Rattle.blk_records.specs.declared.watched.Holder.{Holder}
use Rattle.blk_records.specs.declared.watched.Watched.{Watched}

-- the bytes that it will give, where they are known, and whether a read of it has failed
abbrev pub remaining_of : {R : Type 0} → (R → Option (List ℕ)) → Watched R → Option (List ℕ)
remaining_of remaining w = remaining w.inner

abbrev pub read_failed : {R : Type 0} → Watched R → Bool
read_failed w = w.failed

-- the same of the one that a holder has; while it is out no byte is known
abbrev pub left_in : {R : Type 0} → (R → Option (List ℕ)) → Holder R → Option (List ℕ)
left_in remaining p = option_and_then (remaining_of remaining) p.held

-- the reader is out
abbrev pub is_out : {R : Type 0} → Holder R → Type 0
is_out p = p.held ≡ None

abbrev pub failed_in : {R : Type 0} → Holder R → Bool
failed_in p = option_map_or read_failed p.held false

-- the records that an input has left, the bytes that its reader has yet to give, and whether a read of it has failed
abbrev pub input_left : {R : Type 0} → (R → Option (List ℕ)) → Input R → Option (List Row)
input_left remaining (input.Bytes holder) = input_of (left_in remaining holder)
input_left remaining (input.Rows reader) = left_of (left_in remaining) reader

abbrev pub input_bytes : {R : Type 0} → (R → Option (List ℕ)) → Input R → Option (List ℕ)
input_bytes remaining (input.Bytes holder) = left_in remaining holder
input_bytes remaining (input.Rows reader) = left_in remaining (reader_source reader)

abbrev pub input_failed : {R : Type 0} → Input R → Bool
input_failed (input.Bytes holder) = failed_in holder
input_failed (input.Rows reader) = failed_in (reader_source reader)

-- these, with these fields of the last record that was read, and this number of records asked for
abbrev pub source_in : {R : Type 0} → (R → Option (List ℕ)) → Input R → Row → ℕ → Source
source_in remaining i fields at = record {
  left = input_left remaining i;
  bytes = input_bytes remaining i;
  fields = fields;
  at = at;
  failed = input_failed i;
}
