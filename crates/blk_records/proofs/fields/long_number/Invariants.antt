use Rattle.std.proofs.Common.{◌≡◌, drop}
use Rattle.std.specs.Str.Parse.{AllDigits, digits_value, digits_value_after}
use Rattle.blk_records.proofs.fields.long_number.Given as goal

abbrev pub invariant-loop-i : goal.invariant-loop-i
invariant-loop-i l = record {
  rest : AllDigits 10 l.field → AllDigits 10 (drop l.i l.field);
  whole : AllDigits 10 (drop l.i l.field) → AllDigits 10 l.field;
  value : digits_value_after 10 l.number (drop l.i l.field) ≡ digits_value 10 l.field;
}
