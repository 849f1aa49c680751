use Rattle.std.proofs.Common.{append_assoc, arith}
use Rattle.text_output.proofs.Digits.{decimal_pair}
use Rattle.text_output.proofs.pieces.put_small.Goals as goal

pub returns-clause-written : goal.returns-clause-written
returns-clause-written c = rw (decimal_pair c.args.number c.if-number-lt100.false (omega (arith, c.requires.0)), ← append_assoc) (rw c.put_short-end.ensures.written at c.put_pair.ensures.written)
