use Rattle.std.proofs.Common.{◌+◌, arith}
use Rattle.std.proofs.lemmas.Fmt.{decimal_digit}
use Rattle.std.proofs.lemmas.List.{take_more_set}
use Rattle.text_output.proofs.Digits.{decimal_two}
use Rattle.text_output.proofs.pieces.put_short.Goals as goal

pub returns-then-number-lt10-clause-written : goal.returns-then-number-lt10-clause-written
returns-then-number-lt10-clause-written c =
    rw (take_more_set c.args.buf.now c.args.at (48 + c.args.number) (omega (arith, c.requires.1)), decimal_digit c.args.number c.if-number-lt10.true)

pub returns-clause-written : goal.returns-clause-written
returns-clause-written c = rw (decimal_two c.args.number c.if-number-lt10.false c.requires.0) c.put_pair.ensures.written
