use Rattle.std.proofs.Common.{arith}
use Rattle.std.proofs.lemmas.Int.{ints}
use Rattle.blk_records.proofs.ClaimLaws.{negative_text}
use Rattle.blk_records.proofs.certificate.lateness_of.Goals as goal

pub returns-in-Some-clause-text : goal.returns-in-Some-clause-text
returns-in-Some-clause-text c = negative_text c.args.field.now c.in-Some.field-0.now c.args.size _ c.in-Some.ensures c.requires.sized c.requires.small (λ some. omega (arith, ints))
