use Rattle.std.proofs.Common.{◌≡◌, ◌<◌, ◌+◌, ℕ, length, get_or, replicate, rules, arith, ap, sym, ◌∙◌, subst}
use Rattle.std.proofs.lemmas.List.{get_or_read}
use Rattle.edd_blame.specs.declared.late.Allowance.{Allowance}
use Rattle.edd_blame.proofs.Causing.{nobody, nothing}
use Rattle.edd_blame.proofs.Stalling.{AreCountedTo, counted_none, counted_other, counted_stall, counted_all, count_few, due_few}
use Rattle.edd_blame.proofs.sum.stall_counts.Goals as goal
use Rattle.edd_blame.proofs.sum.stall_counts.Goals.{then-is_stalled, else-is_stalled}

pub loop-place-init : goal.loop-place-init
loop-place-init g c =
    let zeros : c.in_ok-counts.counts.items ≡ replicate (length c.args.dispatches.now + 1) 0 = search rules in
    counted_none c.args.dispatches.now c.args.allowances.now c.in_ok-counts.counts.items zeros

pub is_stalled-requires : goal.is_stalled-requires
is_stalled-requires g c = c.requires.by_clock.each c.loop-place.place nothing nobody c.loop-place-test.true

pub index_mut-requires : goal.index_mut-requires
index_mut-requires g c =
    let is = c.requires.by_clock.each c.loop-place.place nothing nobody c.loop-place-test.true in
    omega (arith, due_few c.args.dispatches.now (get_or c.args.allowances.now c.loop-place.place nothing) (get_or c.args.commands.now c.loop-place.place nobody) is, c.loop-place.invariant.long)

pub overflow_add-index_mut : goal.overflow_add-index_mut
overflow_add-index_mut g c =
    let is = c.requires.by_clock.each c.loop-place.place nothing nobody c.loop-place-test.true in
    let due : ℕ = (get_or c.args.commands.now c.loop-place.place nobody).due in
    let within : due < length c.loop-place.counts.items = omega (arith, due_few c.args.dispatches.now (get_or c.args.allowances.now c.loop-place.place nothing) (get_or c.args.commands.now c.loop-place.place nobody) is, c.loop-place.invariant.long) in
    let was : c.index_mut.result.now ≡ get_or c.loop-place.counts.items due 0 = get_or_read c.loop-place.counts.items due c.index_mut.result.now within c.index_mut.ensures.value 0 in
    let few = count_few c.args.dispatches.now c.args.allowances.now c.loop-place.place due c.loop-place.counts.items (omega (arith, c.loop-place-test.true, c.requires.by_clock.one_each)) within c.loop-place.invariant in
    omega (arith, few, was, c.requires.by_clock.one_each, c.requires.few)

pub loop-place-preserved : goal.loop-place-preserved
loop-place-preserved g c =
    let i : ℕ = c.loop-place.place in
    let is = c.requires.by_clock.each i nothing nobody c.loop-place-test.true in
    let own : Allowance = get_or c.args.allowances.now i nothing in
    let due : ℕ = (get_or c.args.commands.now i nobody).due in
    let here : i < length c.args.allowances.now = omega (arith, c.loop-place-test.true, c.requires.by_clock.one_each) in
    let within : due < length c.loop-place.counts.items = omega (arith, due_few c.args.dispatches.now own (get_or c.args.commands.now i nobody) is, c.loop-place.invariant.long) in
    elim c.if-is_stalled.branch [
      | then-is_stalled w ↦
          let was : w.index_mut.result.now ≡ get_or c.loop-place.counts.items due 0 = get_or_read c.loop-place.counts.items due w.index_mut.result.now within w.index_mut.ensures.value 0 in
          subst (λ l. AreCountedTo c.args.dispatches.now c.args.allowances.now (i + 1) l) (sym (ap (λ v. v.items) w.counts-is))
          (counted_stall c.args.dispatches.now c.args.allowances.now i due (w.index_mut.result.now + 1) nothing c.loop-place.counts.items here (sym c.is_stalled.ensures ∙ w.if-is_stalled.true) is.1 within (ap (λ n. n + 1) was) c.loop-place.invariant)
      | else-is_stalled w ↦
          subst (λ l. AreCountedTo c.args.dispatches.now c.args.allowances.now (i + 1) l) (sym (ap (λ v. v.items) w.counts-is))
          (counted_other c.args.dispatches.now c.args.allowances.now i nothing c.loop-place.counts.items here (sym c.is_stalled.ensures ∙ w.if-is_stalled.false) c.loop-place.invariant)
    ]

pub returns : goal.returns
returns g c =
    counted_all c.args.dispatches.now c.args.allowances.now c.loop-place.place c.loop-place.counts.items (omega (arith, c.loop-place-test.false, c.requires.by_clock.one_each)) c.loop-place.invariant
