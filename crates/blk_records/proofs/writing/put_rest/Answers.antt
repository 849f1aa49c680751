use Rattle.std.proofs.Common.{◌++◌, ◌∷◌, ◌∙◌, [], take, ap, sym, append_assoc, append-nil, arith, decimal, get_or}
use Rattle.std.proofs.Math.ListN.{replicate}
use Rattle.std.proofs.lemmas.Grind.{replicate_next}
use Rattle.std.proofs.lemmas.List.{take_all}
use Rattle.blk_records.specs.Inside.Cells.{marked}
use Rattle.blk_records.proofs.Rows.{marked_more}
use Rattle.blk_records.proofs.writing.put_rest.Goals as goal

pub loop-i-preserved : goal.loop-i-preserved
loop-i-preserved c = record {
  end = omega (arith, c.loop-i.invariant.end, c.put-mark.ensures.end, c.put_number-end.ensures.end);
  text = c.put_number-end.ensures.written ∙ ap (λ t. t ++ decimal (get_or c.args.numbers.now c.loop-i.i 0)) (c.put-mark.ensures.written ∙ ap (λ t. t ++ 44 ∷ []) c.loop-i.invariant.text)
      ∙ marked_more (take c.args.at c.args.buf.now) c.args.numbers.now c.loop-i.i c.loop-i-test.true;
}

pub loop-init : goal.loop-init
loop-init c = record {
  end = omega (arith, c.loop-i.invariant.end);
  text = rw (take_all c.loop-i.i c.args.numbers.now (omega arith)) at c.loop-i.invariant.text ∙ ap (λ t. take c.args.at c.args.buf.now ++ t) (sym (append-nil _));
}

pub loop-preserved : goal.loop-preserved
loop-preserved c = record {
  end = omega (arith, c.loop.invariant.end, c.put-end.ensures.end);
  text = c.put-end.ensures.written ∙ ap (λ t. t ++ 44 ∷ []) c.loop.invariant.text ∙ append_assoc (take c.args.at c.args.buf.now) (marked c.args.numbers.now ++ replicate c.loop.counter 44) (44 ∷ [])
      ∙ ap (λ t. take c.args.at c.args.buf.now ++ t) (append_assoc (marked c.args.numbers.now) (replicate c.loop.counter 44) (44 ∷ []) ∙ ap (λ t. marked c.args.numbers.now ++ t) (sym (replicate_next c.loop.counter 44)));
}
