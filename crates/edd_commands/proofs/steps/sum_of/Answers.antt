use Rattle.std.proofs.Common.{◌≤◌, ◌-◌, ◌+◌, ◌*◌, get_or, inl, inr, arith, sym}
use Rattle.std.proofs.lemmas.Bool.{cases_lt}
use Rattle.edd_commands.specs.Inside.InForce.{IsInForce}
use Rattle.edd_commands.proofs.InForce.{IsEnd, end_at_step, end_at_last, sum_more, next_in_force, product_small, carried_from}
use Rattle.edd_commands.proofs.steps.sum_of.Goals as goal
use Rattle.edd_commands.proofs.steps.sum_of.Goals.{then-place-steps, else-place-steps}

pub loop-start-init : goal.loop-start-init
loop-start-init c =
    record {
      after = omega arith;
      before = inl (omega arith);
      total = sym (carried_from c.args.steps.now c.args.from (c.args.from - c.args.from) (omega arith));
      small = omega arith;
      in_force = λ h. c.place_at-place.ensures;
    }

end_here : (c : goal.After-row_known-1) → IsEnd c.args.steps.now c.loop-start.place c.loop-start.start c.args.until c.if-place-steps.end record { from = 0; depth = 0 }
end_here c =
    let force : IsInForce c.args.steps.now c.loop-start.place c.loop-start.start = c.loop-start.invariant.in_force c.loop-start-test.true in
    elim c.if-place-steps.branch [
      | then-place-steps w ↦ end_at_step c.args.steps.now c.loop-start.place c.loop-start.start c.args.until c.if-place-steps.end record { from = 0; depth = 0 } force c.loop-start-test.true (omega arith) (omega arith) (omega arith) (elim (cases_lt c.args.until (get_or c.args.steps.now (c.loop-start.place + 1) record { from = 0; depth = 0 }).from) [ inl past ↦ inl (omega arith) | inr cut ↦ inr (omega arith) ])
      | else-place-steps w ↦ end_at_last c.args.steps.now c.loop-start.place c.loop-start.start c.args.until c.if-place-steps.end record { from = 0; depth = 0 } c.loop-start-test.true (omega arith) (omega arith)
    ]

more_small : (c : goal.After-row_known-1) → (get_or c.args.steps.now c.loop-start.place record { from = 0; depth = 0 }).depth * (c.if-place-steps.end - c.loop-start.start) ≤ 256 * (c.if-place-steps.end - c.loop-start.start)
more_small c =
    product_small c.args.steps.now c.loop-start.place (c.if-place-steps.end - c.loop-start.start) record { from = 0; depth = 0 } c.requires.capacity (c.loop-start.invariant.in_force c.loop-start-test.true).in_list

pub overflow_mul-total : goal.overflow_mul-total
overflow_mul-total c = let low = more_small c in let end = end_here c in omega (arith, end.most)

pub overflow_add-total : goal.overflow_add-total
overflow_add-total c = let low = more_small c in let end = end_here c in omega (arith, end.most, end.up)

pub loop-start-preserved : goal.loop-start-preserved
loop-start-preserved c =
    let low = more_small c in
    let end = end_here c in
    let force : IsInForce c.args.steps.now c.loop-start.place c.loop-start.start = c.loop-start.invariant.in_force c.loop-start-test.true in
    record {
      after = omega (arith, end.up);
      before = inr end.most;
      total = omega (arith, sum_more c.args.steps.now c.args.from c.loop-start.start c.args.until c.if-place-steps.end c.loop-start.place record { from = 0; depth = 0 } c.requires.capacity force end c.loop-start.invariant.after);
      small = omega (arith, end.up);
      in_force = λ h. next_in_force c.args.steps.now c.loop-start.start c.args.until c.if-place-steps.end c.loop-start.place record { from = 0; depth = 0 } c.requires.capacity end h;
    }
