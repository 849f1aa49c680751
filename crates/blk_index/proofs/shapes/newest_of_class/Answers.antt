use Rattle.std.proofs.Common.{◌≡◌, ◌<◌, ◌≤◌, ◌/◌, arith, ℕ, true, Option, sym, subst}
use Rattle.std.specs.Prelude.{IfSome}
use Rattle.ordered.specs.Ordered.{listed}
use Rattle.blk_index.specs.Inside.Spots.{IsBelow}
use Rattle.blk_index.specs.Inside.Entries.{entry_cmp}
use Rattle.blk_index.specs.Inside.Shapes.{StandsBetween}
use Rattle.blk_index.proofs.Shaped.{blocks_up, unit_up, low_both, follows_both, not_most}
use Rattle.blk_index.proofs.shapes.newest_of_class.Goals as goal

pub loop-end-preserved-then-end-eq0 : goal.loop-end-preserved-then-end-eq0
loop-end-preserved-then-end-eq0 g c =
    let size = c.loop-end.invariant.size in
    let small : c.loop-end.end < 65536 = c.loop-end.invariant.small in
    record {
      low = c.loop-end.invariant.low;
      size = unit_up c.loop-end.unit size c.if-unit-lt-MOST_SECTORS.true;
      small = omega arith;
      rest = λ k s follows there most. blocks_up c.loop-end.unit c.loop-end.end s size c.if-end-eq0.true (c.loop-end.invariant.rest k s follows there most);
    }

pub returns-in_default-clause-newest : goal.returns-in_default-clause-newest
returns-in_default-clause-newest g c = λ k s follows there most.
    c.in_default.ensures.none (s / c.loop-end.unit) k (c.loop-end.invariant.rest k s follows there most) (there c.loop-end.unit c.loop-end.invariant.size)

pub loop-end-preserved : goal.loop-end-preserved
loop-end-preserved g c =
    let size = c.loop-end.invariant.size in
    let small : c.loop-end.end < 65536 = c.loop-end.invariant.small in
    let less : c.in-Some.last < c.loop-end.end = c.in-Some.ensures.low in
    record {
      low = subst (λ (r : Option ℕ). IfSome r (IsBelow c.args.below)) (sym c.greater-best.ensures) (low_both c.args.below c.loop-end.best c.newest_under.result c.loop-end.invariant.low c.newest_under.ensures.low);
      size = size;
      small = omega arith;
      rest = λ k s follows there most.
          let two = follows_both c.args.below c.loop-end.best c.newest_under.result k (subst (λ (r : Option ℕ). StandsBetween c.args.below r k) c.greater-best.ensures follows) in
          let stands = there c.loop-end.unit size in
          not_most (s / c.loop-end.unit) c.in-Some.last (c.in-Some.ensures.last (s / c.loop-end.unit) k (c.loop-end.invariant.rest k s two.0 there most) stands)
          (λ same. c.newest_under.ensures.newest k two.1 (subst (λ (n : ℕ). listed entry_cmp c.args.entries.now (((c.args.class, c.loop-end.unit), n), k) ≡ true) same stands));
    }

pub returns-clause-newest : goal.returns-clause-newest
returns-clause-newest g c = λ k s follows there most.
    let less : s / c.loop-end.unit < c.loop-end.end = c.loop-end.invariant.rest k s follows there most in
    let none : c.loop-end.end ≤ 0 = c.loop-end-test.false in omega arith
