use Rattle.std.proofs.Common.{◌≡◌, ◌+◌, ◌∙◌, ℕ, length, get_or, nat_lt, sym, ap, arith}
use Rattle.std.proofs.lemmas.Bool.{lt-ltb, le-ltb}
use Rattle.blk_report.proofs.Halving.{below_none, below_next, push_count, one_if}
use Rattle.blk_report.proofs.below.counts_below.Goals as goal
use Rattle.blk_report.proofs.below.counts_below.Goals.{then-number-pivot, else-number-pivot}

pub loop-number-init : goal.loop-number-init
loop-number-init g c = record {
  few = omega arith;
  so_far = sym (below_none c.args.numbers.now c.args.pivot);
  each = ap length c.new-counts.ensures.items;
  at = λ i h. absurd (omega (arith, h));
}

pub loop-number-preserved : goal.loop-number-preserved
loop-number-preserved g c =
    let old = c.loop-number.invariant in
    let n : ℕ = c.loop-number.number-index in
    let more = below_next c.args.numbers.now c.args.pivot n 0 c.loop-number-test.true in
    let new = push_count c.args.numbers.now c.args.pivot n c.loop-number.count c.loop-number.counts.items c.push.new.self.items old.each old.so_far c.in_ok-push.ensures.items old.at in
    elim c.if-number-pivot.branch [
      | then-number-pivot w ↦ (let one : one_if (nat_lt (get_or c.args.numbers.now n 0) c.args.pivot) ≡ 1 = ap one_if (lt-ltb (get_or c.args.numbers.now n 0) c.args.pivot w.if-number-pivot.true) in record {
        few = omega (arith, w.count-is, old.few);
        so_far = omega (arith, w.count-is, more, one, old.so_far);
        each = new.0;
        at = new.1;
      })
      | else-number-pivot w ↦ (let none : one_if (nat_lt (get_or c.args.numbers.now n 0) c.args.pivot) ≡ 0 = ap one_if (le-ltb (get_or c.args.numbers.now n 0) c.args.pivot w.if-number-pivot.false) in record {
        few = omega (arith, w.count-is, old.few);
        so_far = omega (arith, w.count-is, more, none, old.so_far);
        each = new.0;
        at = new.1;
      })
    ]

pub returns : goal.returns
returns g c =
    let old = c.loop-number.invariant in
    let n : ℕ = c.loop-number.number-index in
    let new = push_count c.args.numbers.now c.args.pivot n c.loop-number.count c.loop-number.counts.items c.push-2.new.self.items old.each old.so_far c.in_ok-push-2.ensures.items old.at in
    let all : n ≡ length c.args.numbers.now = let e = c.loop-number-test.false in let b = c.loop-number.auto.number-index-end in omega (arith, e, b) in
    record {
      each = new.0 ∙ ap (λ m. m + 1) all;
      at = λ i h. new.1 i (omega (arith, h, all));
    }
