use Rattle.std.proofs.Common.{◌∙◌, sym, arith}
use Rattle.std.proofs.lemmas.Fmt.{decimal_injective}
use Rattle.blk_explain.proofs.broken.is_in_range.Goals as goal

pub returns-in-Some : goal.returns-in-Some
returns-in-Some c = (
  λ t m h e. (
      let same = decimal_injective m c.in-Some.n h (omega arith) (sym e ∙ c.in-Some.ensures) in
      let is = c.is_between.ensures.0 t in
      let low = is.0 in
      let high = is.1 in (omega (arith, same, low), omega (arith, same, high))
      ),
  λ r. c.is_between.ensures.1 (r c.in-Some.n (omega arith) c.in-Some.ensures),
)
