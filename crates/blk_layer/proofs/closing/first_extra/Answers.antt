use Rattle.std.proofs.Common.{◌∙◌, ◌+◌, ◌<◌, ◌≤◌, sym, subst, arith, length}
use Rattle.blk_layer.specs.Inside.Closing.{AreAbreast}
use Rattle.blk_layer.proofs.Abreast.{start, step_both, step_other, none_left, none_below, stands_more, gone_over}
use Rattle.blk_layer.proofs.closing.first_extra.Goals as goal
use Rattle.blk_layer.proofs.closing.first_extra.Goals.{in-Equal, in-Greater}

pub loop-item-init : goal.loop-item-init
loop-item-init g c = (omega arith, start g.T.PartialEq.eq g.T.Ord.cmp g.met.T.Ord.total g.met.T.Ord.matches_eq c.args.list.now c.args.other.now)

pub returns-then-place-list-clause-none : goal.returns-then-place-list-clause-none
returns-then-place-list-clause-none g c =
    gone_over g.T.PartialEq.eq g.T.Ord.cmp g.met.T.Ord.total g.met.T.Ord.matches_eq c.args.list.now c.args.other.now c.loop-item.place c.loop-item.item-index (omega (arith, c.if-place-list.true)) c.loop-item.invariant.1

pub returns-in-Less-clause-some : goal.returns-in-Less-clause-some
returns-in-Less-clause-some g c =
    let same = g.T.PartialEq.eq in
    let low : c.loop-item.place < length c.args.list.now = omega (arith, c.if-place-list.false, c.loop-item.invariant.0) in
    let x = c.index-list-place.result in
    let none = none_below same g.T.Ord.cmp g.met.T.Ord.total g.met.T.Ord.matches_eq c.args.other.now c.requires.other c.loop-item.item-index x c.item-item.result c.loop-item-test.true c.item-item.is (sym c.cmp.ensures ∙ c.in-Less.is) in
    ((c.loop-item.place, low, sym c.index-list-place.is), stands_more same g.T.Ord.cmp g.met.T.Ord.total g.met.T.Ord.matches_eq c.args.list.now c.args.other.now c.loop-item.place c.loop-item.item-index x low c.index-list-place.is c.loop-item.invariant.1 none)

pub loop-item-preserved : goal.loop-item-preserved
loop-item-preserved g c =
    let same = g.T.PartialEq.eq in
    let xs = c.args.list.now in
    let ys = c.args.other.now in
    let i = c.loop-item.place in
    let k = c.loop-item.item-index in
    let low : i < length xs = omega (arith, c.if-place-list.false, c.loop-item.invariant.0) in
    elim c.match-cmp.branch [
      | in-Equal w ↦
          subst (λ p. (p ≤ length xs) × AreAbreast same xs ys p (k + 1)) (sym w.place-is)
          (omega (arith, low), step_both same g.T.Ord.cmp g.met.T.Ord.total g.met.T.Ord.matches_eq xs ys i k c.index-list-place.result c.item-item.result low c.index-list-place.is c.loop-item-test.true c.item-item.is (sym c.cmp.ensures ∙ w.in-Equal.is) c.loop-item.invariant.1)
      | in-Greater w ↦
          subst (λ p. (p ≤ length xs) × AreAbreast same xs ys p (k + 1)) (sym w.place-is)
          (c.loop-item.invariant.0, step_other same g.T.Ord.cmp g.met.T.Ord.total g.met.T.Ord.matches_eq xs ys i k c.index-list-place.result c.item-item.result c.requires.list low c.index-list-place.is c.loop-item-test.true c.item-item.is (sym c.cmp.ensures ∙ w.in-Greater.is) c.loop-item.invariant.1)
    ]

pub returns-clause-some : goal.returns-clause-some
returns-clause-some g c =
    let same = g.T.PartialEq.eq in
    let low : c.loop-item.place < length c.args.list.now = omega (arith, c.if-place-list-2.false, c.loop-item.invariant.0) in
    let x = c.index-list-place-2.result in
    let none = none_left same g.T.Ord.cmp g.met.T.Ord.total g.met.T.Ord.matches_eq x c.args.other.now c.loop-item.item-index c.loop-item-test.false in
    ((c.loop-item.place, low, sym c.index-list-place-2.is), stands_more same g.T.Ord.cmp g.met.T.Ord.total g.met.T.Ord.matches_eq c.args.list.now c.args.other.now c.loop-item.place c.loop-item.item-index x low c.index-list-place-2.is c.loop-item.invariant.1 none)
