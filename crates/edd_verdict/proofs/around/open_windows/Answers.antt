use Rattle.std.proofs.Common.{◌≡◌, ◌-◌, ◌++◌, ◌∷◌, [], get_or, arith, ap, ◌∙◌, subst, inl, inr}
use Rattle.std.proofs.lemmas.Bool.{cases_eq}
use Rattle.std.proofs.lemmas.List.{get_or_default}
use Rattle.edd_check.specs.declared.Window.{Window}
use Rattle.edd_verdict.specs.Inside.Open.{IsBeginPlace}
use Rattle.edd_verdict.proofs.Opening.{one_opened, entered}
use Rattle.edd_verdict.proofs.around.open_windows.Goals as goal

abbrev none : Window
none = record { from = 0; due = 0 }

pub loop-now-preserved : goal.loop-now-preserved
loop-now-preserved g c =
    let w : Window = get_or c.args.windows.now (c.loop-now.now - 1) none in
    let is_w : (e : Window) → get_or c.args.windows.now (c.loop-now.now - 1) e ≡ w = λ e. get_or_default c.args.windows.now (c.loop-now.now - 1) e none (omega (arith, c.requires.within, c.loop-now.invariant.within)) in
    record {
      are = one_opened c.args.windows.now c.loop-now.now (c.loop-now.now - 1) c.begun_before-kept.result c.loop-now.opened.items c.push.new.self.items w c.requires.rising (omega (arith, c.requires.within, c.loop-now.invariant.within)) (omega arith) c.loop-now.invariant.are is_w
          (subst (λ xs. IsBeginPlace xs w.from c.begun_before-kept.result) c.as_slice.ensures.value c.begun_before-kept.ensures)
          (c.in-Ok.ensures.items ∙ ap (λ xs. xs ++ w ∷ []) c.truncate.ensures.items);
      within = omega (arith, c.loop-now.invariant.within);
      later = λ i e low h.
          elim (cases_eq i (c.loop-now.now - 1)) [
            | inl same ↦ omega (arith, ap (λ k. (get_or c.args.windows.now k e).due) same, ap (λ (v : Window). v.due) (is_w e))
            | inr other ↦ c.loop-now.invariant.later i e (omega arith) h
          ];
    }

pub returns-else-windows-now-clause-past : goal.returns-else-windows-now-clause-past
returns-else-windows-now-clause-past g c =
    entered c.args.windows.now c.args.left c.loop-now.now c.args.due c.requires.rising c.loop-now.invariant.within c.requires.within c.loop-now.invariant.later
    (λ e some. omega (arith, ap (λ (v : Window). v.due) (get_or_default c.args.windows.now (c.loop-now.now - 1) e none (omega (arith, c.requires.within, c.loop-now.invariant.within)))))
