use Rattle.std.proofs.Common.{◌≤◌, ◌<◌, ◌*◌, ◌+◌, ◌-◌, ◌≡◌, ◌^◌, ℕ, get_or, inl, inr, arith, sym, ap, ◌∙◌, refl}
use Rattle.std.proofs.lemmas.Bool.{cases_eq}
use Rattle.std.proofs.lemmas.List.{get_or_default}
use Rattle.edd_check.specs.declared.Window.{Window}
use Rattle.edd_check.proofs.Covers.{carried_by_none, carried_by_more, sum_small}
use Rattle.edd_check.proofs.on_time.carried_by.Goals as goal

abbrev none : Window
none = record { from = 0; due = 0 }

pub loop-window-init : goal.loop-window-init
loop-window-init g c =
    record {
      so_far = sym (carried_by_none c.args.capacity.now c.args.cover.now);
      none = λ _. refl;
      small = λ d h. absurd (omega arith);
    }

pub overflow_add-total : goal.overflow_add-total
overflow_add-total g c =
    let i : ℕ = c.loop-window.window-index in
    let low = sum_small c.args.cover.now i c.loop-window.total none c.requires.disjoint c.loop-window-test.true c.loop-window.invariant.none c.loop-window.invariant.small in
    let some : (get_or c.args.cover.now i none).from ≤ (get_or c.args.cover.now i none).due = (c.requires.disjoint i c.loop-window-test.true).some none in
    let high : (get_or c.args.cover.now i none).due < 2 ^ 41 = (c.requires.in_range i none c.loop-window-test.true).1 in
    omega (arith, c.carried_in-total.ensures.most)

pub loop-window-preserved : goal.loop-window-preserved
loop-window-preserved g c =
    let i : ℕ = c.loop-window.window-index in
    record {
      so_far = omega (arith, carried_by_more c.args.capacity.now c.args.cover.now i none c.loop-window-test.true, c.carried_in-total.ensures.value, c.loop-window.invariant.so_far);
      none = λ h. absurd (omega arith);
      small = λ d h.
          let low : c.loop-window.total ≤ 256 * (get_or c.args.cover.now i none).from = sum_small c.args.cover.now i c.loop-window.total none c.requires.disjoint c.loop-window-test.true c.loop-window.invariant.none c.loop-window.invariant.small in
          let some : (get_or c.args.cover.now i none).from ≤ (get_or c.args.cover.now i none).due = (c.requires.disjoint i c.loop-window-test.true).some none in
          let now : c.loop-window.total + c.carried_in-total.result ≤ 256 * ((get_or c.args.cover.now i none).due + 1) = omega (arith, c.carried_in-total.ensures.most) in
          let same : i + 1 - 1 ≡ i = omega arith in
          let at : (get_or c.args.cover.now (i + 1 - 1) d).due ≡ (get_or c.args.cover.now i none).due = ap (λ n. (get_or c.args.cover.now n d).due) same ∙ ap (λ (w : Window). w.due) (get_or_default c.args.cover.now i d none c.loop-window-test.true) in
          omega arith;
    }

pub returns-clause-small : goal.returns-clause-small
returns-clause-small g c =
    let n : ℕ = c.loop-window.window-index in
    elim (cases_eq n 0) [
      | inl first ↦ omega (arith, c.loop-window.invariant.none first)
      | inr more ↦ omega (arith, c.loop-window.invariant.small none (omega arith), (c.requires.in_range (n - 1) none (omega arith)).1)
    ]
