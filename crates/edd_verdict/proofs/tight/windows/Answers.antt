use Rattle.std.proofs.Common.{◌≡◌, ◌<◌, ◌+◌, ◌++◌, ◌∷◌, [], ℕ, List, get_or, take, arith, refl, ap, sym, ◌∙◌, subst}
use Rattle.edd_check.specs.declared.Window.{Window}
use Rattle.edd_oracle.specs.declared.cover.Served.{Served}
use Rattle.edd_verdict.specs.Inside.Tight.{AreBarred, AreTightBelow, IsDuePlace, IsTight}
use Rattle.edd_oracle.proofs.Back.{nobody}
use Rattle.edd_verdict.proofs.Sweeping.{crossed, gap_tight, reached_more, window_here, barred_window, barred_peak, tight_window, tight_peak, all_tight, begins_none, begins_some}
use Rattle.edd_verdict.proofs.tight.windows.Goals as goal
use Rattle.edd_verdict.proofs.tight.windows.Goals.{then-last+in-Ok-push, else-last+in-Ok-push-2}

pub loop-last-preserved : goal.loop-last-preserved
loop-last-preserved g c =
    let full : List Served = c.args.full.now in
    let n : ℕ = c.loop-last.last-index in
    let f : Served = get_or full n nobody in
    let peaks : List Served = c.cross_gap.new.peaks.items in
    let m : ℕ = c.later_than-kept.result in
    let barred : AreBarred full f.round peaks = crossed full c.requires.rising n c.loop-last.next nobody c.loop-last.peaks.items peaks c.loop-last.invariant.reached c.loop-last-test.true c.loop-last.invariant.barred c.in-Ok.ensures.same c.in-Ok.ensures.gap in
    let kept : IsDuePlace peaks f.due m = subst (λ xs. IsDuePlace xs f.due m) c.as_slice.ensures.value c.later_than-kept.ensures in
    let so_far : AreTightBelow full f.round c.loop-last.found.items = gap_tight full c.requires.rising n c.loop-last.next nobody c.loop-last.found.items c.loop-last.invariant.reached c.loop-last-test.true (c.loop-last.invariant.reached.ahead n nobody (omega arith) c.loop-last-test.true) c.loop-last.invariant.tight in
    let timely = c.requires.timely n nobody c.loop-last-test.true in
    elim c.if-last.branch [
      | then-last+in-Ok-push w ↦
          let v : Window = record { from = w.start_after-from.result; due = f.round } in
          let rest : List Served = w.as_slice-then-last.result.now in
          let left : rest ≡ take m peaks = w.as_slice-then-last.ensures.value ∙ c.truncate.ensures.items in
          let is_due : f.due ≡ f.round = w.if-last.true in
          let tight : IsTight full v = window_here full c.requires.rising n nobody c.loop-last-test.true peaks m barred kept v is_due timely.1 refl (begins_none peaks rest m v.from left kept.within w.start_after-from.ensures.none) (begins_some peaks rest m v.from left kept.within w.start_after-from.ensures.some) in
          record {
            reached = reached_more full c.requires.rising n c.loop-last.next nobody c.loop-last.invariant.reached c.loop-last-test.true;
            barred = barred_window full c.requires.rising n nobody c.loop-last-test.true peaks m barred kept c.if-last.peaks.items is_due (ap (λ v. v.items) w.peaks-is ∙ c.truncate.ensures.items);
            tight = tight_window full c.requires.rising n nobody c.loop-last-test.true peaks m barred kept c.loop-last.found.items c.if-last.found.items v so_far is_due tight refl (ap (λ v. v.items) w.found-is ∙ w.in-Ok-push.ensures.items);
          }
      | else-last+in-Ok-push-2 w ↦
          let later : f.round < f.due = omega (arith, timely.0, w.if-last.false) in
          record {
            reached = reached_more full c.requires.rising n c.loop-last.next nobody c.loop-last.invariant.reached c.loop-last-test.true;
            barred = barred_peak full c.requires.rising n nobody c.loop-last-test.true peaks m barred kept c.if-last.peaks.items f later refl (ap (λ v. v.items) w.peaks-is ∙ w.in-Ok-push-2.ensures.items ∙ ap (λ xs. xs ++ f ∷ []) c.truncate.ensures.items);
            tight = subst (λ xs. AreTightBelow full (f.round + 1) xs) (sym (ap (λ v. v.items) w.found-is)) (tight_peak full c.requires.rising n nobody c.loop-last-test.true peaks m barred kept c.loop-last.found.items so_far later);
          }
    ]

pub returns : goal.returns
returns g c =
    all_tight c.args.full.now c.requires.rising c.loop-last.last-index c.loop-last.next c.loop-last.found.items c.loop-last.invariant.reached (omega arith) c.loop-last.invariant.tight
