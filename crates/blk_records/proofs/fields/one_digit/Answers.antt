use Rattle.std.proofs.Common.{arith}
use Rattle.blk_records.proofs.Decimals.{one_decimal, no_digit}
use Rattle.blk_records.proofs.fields.one_digit.Goals as goal

pub returns-then-digit-gt9 : goal.returns-then-digit-gt9
returns-then-digit-gt9 c = no_digit c.args.byte (λ lo hi. omega (arith, c.if-digit-gt9.true, c.ranges.byte.fits))

pub returns : goal.returns
returns c = one_decimal c.args.byte _ (omega (arith, c.if-digit-gt9.false, c.ranges.byte.fits)) (omega (arith, c.if-digit-gt9.false, c.ranges.byte.fits))
