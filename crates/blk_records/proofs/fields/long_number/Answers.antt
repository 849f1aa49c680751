use Rattle.std.proofs.Common.{rules}
use Rattle.blk_records.proofs.Decimals.{too_great}
use Rattle.blk_records.proofs.fields.long_number.Goals as goal

pub returns-then-is_past : goal.returns-then-is_past
returns-then-is_past c =
    too_great c.args.field.now c.loop-i.i c.loop-i.number c.loop-i-test.true c.if-byte-lt48.false c.if-byte-gt57.false c.loop-i.invariant.value (search rules)
