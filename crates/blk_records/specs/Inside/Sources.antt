-- The CSV readers that are read from.
use Rattle.std.specs.Prelude.{◌≡◌, ◌⊎◌, true}
use Rattle.csv.specs.Reading.{default_config, reader_trim, reader_config, is_flexible, Ready, has_failed}
use Rattle.csv.specs.declared.reader.Reader.{Reader}
use Rattle.csv.specs.declared.reader.Trim.TheVariants as trim
use Rattle.blk_records.specs.declared.source.Input.{Input}
use Rattle.blk_records.specs.declared.source.Input.TheVariants as input

-- a reader that has failed, or one with no header row and the usual marks, whose records are of any width
abbrev pub IsPlainReader : {R : Type 0} → Reader R → Type 0
IsPlainReader s = (has_failed s ≡ true) ⊎ ((reader_trim s ≡ trim.None) × (reader_config s ≡ default_config) × Ready s × (is_flexible s ≡ true))

-- an input whose CSV reader, if it has one, is such a one
abbrev pub IsPlainInput : {R : Type 0} → Input R → Type 0
IsPlainInput (input.Bytes holder) = Unit {0}
IsPlainInput (input.Rows reader) = IsPlainReader reader

-- and one that has such a reader
abbrev pub IsOpen : {R : Type 0} → Input R → Type 0
IsOpen (input.Bytes holder) = ⊥
IsOpen (input.Rows reader) = IsPlainReader reader
