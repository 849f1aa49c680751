use Rattle.std.proofs.Common.{◌<◌, ◌≡◌, ◌^◌, drop}
use Rattle.std.specs.Str.Parse.{AllDigits, digits_value, digits_value_after}
use Rattle.blk_records.proofs.fields.short_number.Given as goal

abbrev pub invariant-loop-byte : goal.invariant-loop-byte
invariant-loop-byte l = record {
  rest : AllDigits 10 l.field → AllDigits 10 (drop l.byte-index l.field);
  whole : AllDigits 10 (drop l.byte-index l.field) → AllDigits 10 l.field;
  value : digits_value_after 10 l.number (drop l.byte-index l.field) ≡ digits_value 10 l.field;
  small : l.number < 10 ^ l.byte-index;
}
