use Rattle.std.proofs.Common.{◌<◌, ◌≤◌, ◌/◌, ℕ, Option, arith, sym, subst}
use Rattle.std.specs.Prelude.{IfSome}
use Rattle.blk_index.specs.Inside.Spots.{IsBelow}
use Rattle.blk_index.specs.Inside.Shapes.{entries_in, StandsBetween, IsInClass}
use Rattle.blk_index.proofs.Shaped.{blocks_up, span_up, is_unit, low_both, follows_both, not_last}
use Rattle.blk_index.proofs.shapes.Shapes.newest.Goals as goal

pub loop-end-preserved-then-end-eq0 : goal.loop-end-preserved-then-end-eq0
loop-end-preserved-then-end-eq0 g c =
    let size = c.loop-end.invariant.size in
    record {
      low = c.loop-end.invariant.low;
      size = span_up c.loop-end.span size c.if-span-lt-MOST_BIOS.true;
      rest = λ k s b follows there most few.
          blocks_up c.loop-end.span c.loop-end.end b (is_unit c.loop-end.span size) c.if-end-eq0.true (c.loop-end.invariant.rest k s b follows there most few);
    }

pub loop-end-preserved : goal.loop-end-preserved
loop-end-preserved g c =
    let size = c.loop-end.invariant.size in
    record {
      low = subst (λ (r : Option ℕ). IfSome r (IsBelow c.args.below)) (sym c.greater-best.ensures) (low_both c.args.below c.loop-end.best c.newest_of_class.result c.loop-end.invariant.low c.newest_of_class.ensures.low);
      size = size;
      rest = λ k s b follows there most few.
          let two = follows_both c.args.below c.loop-end.best c.newest_of_class.result k (subst (λ (r : Option ℕ). StandsBetween c.args.below r k) c.greater-best.ensures follows) in
          not_last (b / c.loop-end.span) c.loop-end.end (c.loop-end.invariant.rest k s b two.0 there most few)
          (λ same. c.newest_of_class.ensures.newest k s two.1
          (subst (λ (n : ℕ). IsInClass (entries_in c.args.self.now) ((c.args.place, c.loop-end.span), n) s k) same (there c.loop-end.span size)) most);
    }

pub returns-clause-newest : goal.returns-clause-newest
returns-clause-newest g c = λ k s b follows there most few.
    let less : b / c.loop-end.span < c.loop-end.end = c.loop-end.invariant.rest k s b follows there most few in
    let none : c.loop-end.end ≤ 0 = c.loop-end-test.false in omega arith
