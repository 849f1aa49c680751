use Rattle.std.proofs.Common.{append_assoc, arith}
use Rattle.text_output.proofs.Digits.{decimal_eights}
use Rattle.text_output.proofs.pieces.put_long.Goals as goal

pub returns-clause-written : goal.returns-clause-written
returns-clause-written c = rw (decimal_eights c.args.number c.if-number-lt100000000.false (omega arith), ← append_assoc) (rw c.put_upper-end.ensures.written at c.put_eight.ensures.written)
