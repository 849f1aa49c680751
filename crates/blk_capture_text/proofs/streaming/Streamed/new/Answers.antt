use Rattle.std.proofs.Common.{refl, sym, arith, [], ◌∙◌}
use Rattle.blk_capture_text.proofs.Doubting.{none_counted}
use Rattle.blk_capture_text.proofs.streaming.Streamed.new.Goals as goal

pub returns-clause-streamed : goal.returns-clause-streamed
returns-clause-streamed c = record {
  fates = [];
  taken = c.in_ok-new.ensures.taken;
  unused = c.none-2.ensures;
  counts = c.none.ensures ∙ sym none_counted;
  first = refl;
  next = λ r order. omega (arith, c.in_ok-new.ensures.now);
}
