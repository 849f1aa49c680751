use Rattle.std.proofs.Common.{append_assoc, arith}
use Rattle.text_output.proofs.Digits.{decimal_fours}
use Rattle.text_output.proofs.pieces.put_middle.Goals as goal

pub returns-clause-written : goal.returns-clause-written
returns-clause-written c = rw (decimal_fours c.args.number c.if-number-lt10000.false (omega (arith, c.requires.0)), ← append_assoc) (rw c.put_small-end.ensures.written at c.put_four.ensures.written)
