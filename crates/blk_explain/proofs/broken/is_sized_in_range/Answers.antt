use Rattle.std.proofs.Common.{arith}
use Rattle.blk_explain.proofs.Sized.{sized_once}
use Rattle.blk_explain.proofs.broken.is_sized_in_range.Goals as goal

pub returns-in-Some : goal.returns-in-Some
returns-in-Some c = (
  λ t m h e.
      let same = sized_once c.args.field.now m c.in-Some.n h (omega arith) e c.in-Some.ensures in
      let is = c.is_between.ensures.0 t in
      let high = is.1 in omega (arith, same, high),
  λ r. c.is_between.ensures.1 (omega arith, r c.in-Some.n (omega arith) c.in-Some.ensures),
)
