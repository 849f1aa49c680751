use Rattle.std.proofs.Common.{◌∙◌, arith, sym}
use Rattle.blk_index.proofs.Lanes.{least_at, one_further, none_in, read_at}
use Rattle.blk_index.proofs.lane.first_of_run.Goals as goal

pub loop-index-preserved : goal.loop-index-preserved
loop-index-preserved g c = record {
  bound = omega (arith, c.loop-index-test.true, c.len.ensures);
  none = one_further c.args.run.now.items c.loop-index.index c.index.result.now c.loop-index.invariant.none
      (read_at c.args.run.now.items c.loop-index.index c.index.result.now (omega (arith, c.loop-index-test.true, c.len.ensures)) c.index.ensures)
      (sym c.is_some.ensures ∙ c.if-is_some.false);
}

pub returns-then-is_some : goal.returns-then-is_some
returns-then-is_some g c = λ range.
    least_at c.args.from c.args.run.now.items c.loop-index.index c.index.result.now c.checked_add.result range (omega (arith, c.loop-index-test.true, c.len.ensures)) c.loop-index.invariant.none
    (read_at c.args.run.now.items c.loop-index.index c.index.result.now (omega (arith, c.loop-index-test.true, c.len.ensures)) c.index.ensures)
    (sym c.is_some.ensures ∙ c.if-is_some.true) c.checked_add.ensures

pub returns : goal.returns
returns g c = λ range. none_in c.args.from c.args.run.now.items (λ k low. c.loop-index.invariant.none k (omega (arith, low, c.loop-index-test.false, c.len.ensures)))
