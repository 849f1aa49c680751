use Rattle.std.proofs.Common.{refl}
use Rattle.blk_cli.proofs.Given.{given_of}
use Rattle.blk_cli.proofs.explaining.over_bytes.Goals as goal

pub returns-in-Ok-said_about-clause-answers : goal.returns-in-Ok-said_about-clause-answers
returns-in-Ok-said_about-clause-answers g c =
    given_of c.args.records.now.bytes c.in-Ok.bytes.items _ c.in-Ok.ensures.bytes (rw c.as_slice.ensures.value at c.in-Ok-said_about.ensures)
