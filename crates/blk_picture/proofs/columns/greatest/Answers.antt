use Rattle.std.proofs.Common.{◌∙◌, ap, arith}
use Rattle.std.proofs.lemmas.List.{take_all}
use Rattle.blk_trace.specs.Meaning.{greatest}
use Rattle.blk_picture.proofs.Counting.{greatest_more}
use Rattle.blk_picture.proofs.columns.greatest.Goals as goal

pub loop-number-preserved : goal.loop-number-preserved
loop-number-preserved c = omega (arith, c.loop-number.invariant, greatest_more c.args.numbers.now c.loop-number.number-index c.loop-number-test.true)

pub returns : goal.returns
returns c = c.loop-number.invariant ∙ ap greatest (take_all c.loop-number.number-index c.args.numbers.now c.loop-number-test.false)
