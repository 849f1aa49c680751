use Rattle.std.proofs.Common.{◌≡◌, ◌<◌, ◌+◌, ℕ, ℤ, Option, length, None, subst, sym, arith, refl, slice_index_or}
use Rattle.edd_figures.specs.Figures.{greatest_in}
use Rattle.blk_report.specs.declared.figures.Report.{Report}
use Rattle.blk_report.specs.Comparison.{LeadsOf}
use Rattle.blk_report.specs.Inside.Best.{IsBestOf, better_of}
use Rattle.blk_report.proofs.Leading.{best_next, led}
use Rattle.blk_report.proofs.comparison.compare.Goals as goal

pub loop-place-init : goal.loop-place-init
loop-place-init c = λ k d lt. absurd (omega arith)

pub loop-place-preserved : goal.loop-place-preserved
loop-place-preserved c =
    subst (λ b. IsBestOf c.args.reports.now (c.loop-place.place + 1) b) (sym c.better-best.ensures)
    (subst (λ (late : Option ℤ). IsBestOf c.args.reports.now (c.loop-place.place + 1) (better_of c.loop-place.best c.loop-place.place late)) (sym c.greatest.ensures)
    (best_next c.args.reports.now c.loop-place.place c.loop-place.best record { commands = 0; waiting = 0; depth = 0; figures = None } c.loop-place-test.true c.loop-place.invariant))

pub returns-in-Some-clause-best : goal.returns-in-Some-clause-best
returns-in-Some-clause-best c =
    let all : c.loop-place.place ≡ length c.args.reports.now = let a = c.loop-place-test.false in let b = c.loop-place.auto.place-end in omega (arith, a, b) in
    let leads : LeadsOf c.args.reports.now c.loop-place.place c.in-Some.place c.in-Some.field-0-1 =
    subst (λ b. IsBestOf c.args.reports.now c.loop-place.place b) c.in-Some.is c.loop-place.invariant in
    record { late = c.in-Some.field-0-1; leads = subst (λ n. LeadsOf c.args.reports.now n c.in-Some.place c.in-Some.field-0-1) all leads }

pub returns-in-Some-clause-none : goal.returns-in-Some-clause-none
returns-in-Some-clause-none c =
    let leads : LeadsOf c.args.reports.now c.loop-place.place c.in-Some.place c.in-Some.field-0-1 =
    subst (λ b. IsBestOf c.args.reports.now c.loop-place.place b) c.in-Some.is c.loop-place.invariant in
    (λ e. absurd (cc), λ none. absurd (led c.args.reports.now c.loop-place.place c.in-Some.place c.in-Some.field-0-1 (let b = c.loop-place.auto.place-end in omega (arith, b)) leads none))

pub returns-in-None-clause-none : goal.returns-in-None-clause-none
returns-in-None-clause-none c =
    let all : c.loop-place.place ≡ length c.args.reports.now = let a = c.loop-place-test.false in let b = c.loop-place.auto.place-end in omega (arith, a, b) in
    let none : IsBestOf c.args.reports.now c.loop-place.place None =
    subst (λ b. IsBestOf c.args.reports.now c.loop-place.place b) c.in-None.is c.loop-place.invariant in
    (λ _. subst (λ n. (k : ℕ) (d : Report) → k < n → greatest_in (slice_index_or c.args.reports.now k d).figures ≡ None) all none, λ _. refl)
