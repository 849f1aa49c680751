use Rattle.std.proofs.Common.{ℕ, Option, subst, sym}
use Rattle.std.specs.Prelude.{IfSome, IfNone}
use Rattle.std.specs.FinMap as map
use Rattle.blk_index.specs.Index.{IsFirst, FindsNothing}
use Rattle.blk_index.proofs.First.{first_of_both}
use Rattle.blk_index.proofs.index.Index.first.Goals as goal

pub returns-clause-some : goal.returns-clause-some
returns-clause-some g c = subst (λ (r : Option ℕ). IfSome r (IsFirst (map.get c.args.self.now))) (sym c.lesser.ensures)
    (first_of_both (map.get c.args.self.now) c.oldest.result c.oldest-2.result c.oldest.ensures.some c.oldest.ensures.none c.oldest-2.ensures.some c.oldest-2.ensures.none).0

pub returns-clause-none : goal.returns-clause-none
returns-clause-none g c = subst (λ (r : Option ℕ). IfNone r (FindsNothing (map.get c.args.self.now))) (sym c.lesser.ensures)
    (first_of_both (map.get c.args.self.now) c.oldest.result c.oldest-2.result c.oldest.ensures.some c.oldest.ensures.none c.oldest-2.ensures.some c.oldest-2.ensures.none).1
