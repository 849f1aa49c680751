use Rattle.blk_records.proofs.Decimals.{sized_after, zero_only}
use Rattle.blk_records.proofs.fields.parse_sized.Goals as goal

pub returns-then-n-eq0 : goal.returns-then-n-eq0
returns-then-n-eq0 c =
    sized_after c.args.field.now c.in-Some.digits.now c.in-Some.ensures (zero_only c.in-Some.digits.now c.in-Some-parse_number.n c.if-n-eq0.true c.in-Some-parse_number.ensures)

pub returns-in-None-parse_number : goal.returns-in-None-parse_number
returns-in-None-parse_number c =
    sized_after c.args.field.now c.in-Some.digits.now c.in-Some.ensures (λ n h a p. c.in-None-parse_number.ensures n h a)
