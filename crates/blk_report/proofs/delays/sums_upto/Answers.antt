use Rattle.std.proofs.Common.{◌≡◌, ◌+◌, ◌∙◌, ℕ, length, sym, ap, arith}
use Rattle.edd_commands.proofs.InForce.{carried_none}
use Rattle.edd_check.proofs.Covers.{carried_most}
use Rattle.blk_report.proofs.Waiting.{sum_push, sum_next}
use Rattle.blk_report.proofs.delays.sums_upto.Goals as goal

pub loop-round-init : goal.loop-round-init
loop-round-init g c = record {
  so_far = sym (carried_none c.args.capacity.now 0);
  each = ap length c.new-sums.ensures.items;
  at = λ x h. absurd (omega (arith, h));
}

pub overflow_add-sum : goal.overflow_add-sum
overflow_add-sum g c =
    omega (arith, c.loop-round.invariant.so_far, carried_most c.args.capacity.now 0 c.loop-round.round c.at-sum.ensures.steps, c.at-sum.ensures.most, c.loop-round-test.true, c.requires)

pub loop-round-preserved : goal.loop-round-preserved
loop-round-preserved g c =
    let old = c.loop-round.invariant in
    let n : ℕ = c.loop-round.round in
    let new = sum_push c.args.capacity.now n c.loop-round.sum c.loop-round.sums.items c.push.new.self.items old.each old.so_far c.in_ok-push.ensures.items old.at in
    record {
      so_far = sum_next c.args.capacity.now n c.loop-round.sum c.at-sum.result old.so_far c.at-sum.ensures.value;
      each = new.0;
      at = new.1;
    }

pub returns : goal.returns
returns g c =
    let old = c.loop-round.invariant in
    let n : ℕ = c.loop-round.round in
    let new = sum_push c.args.capacity.now n c.loop-round.sum c.loop-round.sums.items c.push-2.new.self.items old.each old.so_far c.in_ok-push-2.ensures.items old.at in
    let all : n ≡ c.args.last = let e = c.loop-round-test.false in let b = c.loop-round.auto.round-end in omega (arith, e, b) in
    record {
      each = new.0 ∙ ap (λ m. m + 1) all;
      at = λ x h. new.1 x (omega (arith, h, all));
    }
