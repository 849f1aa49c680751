use Rattle.std.proofs.Common.{arith}
use Rattle.blk_records.proofs.Decimals.{room}
use Rattle.blk_records.proofs.fields.short_number.Goals as goal

pub overflow_mul-number : goal.overflow_mul-number
overflow_mul-number c = omega (arith, room c.loop-byte.byte-index c.loop-byte.number (omega arith) c.loop-byte.invariant.small)

pub overflow_add-number : goal.overflow_add-number
overflow_add-number c = omega (arith, room c.loop-byte.byte-index c.loop-byte.number (omega arith) c.loop-byte.invariant.small)
