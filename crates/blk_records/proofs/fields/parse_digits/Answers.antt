use Rattle.std.proofs.Common.{rules}
use Rattle.blk_records.proofs.Decimals.{by_value, no_number}
use Rattle.blk_records.proofs.fields.parse_digits.Goals as goal

pub returns-then-not-is_canonical : goal.returns-then-not-is_canonical
returns-then-not-is_canonical c = no_number c.args.field.now c.is_canonical.result (search rules) c.is_canonical.ensures

pub returns-then-field-le-MAX_SAFE_DIGITS : goal.returns-then-field-le-MAX_SAFE_DIGITS
returns-then-field-le-MAX_SAFE_DIGITS c = by_value c.short_number.result c.args.field.now c.is_canonical.result (search rules) c.is_canonical.ensures c.short_number.ensures.value

pub returns-else-field-le-MAX_SAFE_DIGITS : goal.returns-else-field-le-MAX_SAFE_DIGITS
returns-else-field-le-MAX_SAFE_DIGITS c = by_value c.long_number.result c.args.field.now c.is_canonical.result (search rules) c.is_canonical.ensures c.long_number.ensures
