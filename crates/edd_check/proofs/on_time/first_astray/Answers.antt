use Rattle.std.proofs.Common.{◌<◌, ◌-◌, ℕ, get_or, inl, inr, arith, sym, subst}
use Rattle.std.proofs.lemmas.Bool.{cases_eq}
use Rattle.edd_check.specs.declared.Window.{Window}
use Rattle.edd_check.specs.OnTime.{IsWindowAt}
use Rattle.edd_check.proofs.Covers.{window_here}
use Rattle.edd_check.proofs.on_time.first_astray.Goals as goal
use Rattle.edd_check.proofs.on_time.first_astray.Goals.{else-place-gt0-via-then-place-gt0+else-window-cover, else-place-gt0-via-else-place-gt0}

abbrev none : Window
none = record { from = 0; due = 0 }

pub loop-place-preserved : goal.loop-place-preserved
loop-place-preserved c =
    let i : ℕ = c.loop-place.place in
    let up : 0 < i → (get_or c.args.cover.now (i - 1) none).due < (get_or c.args.cover.now i none).from =
    elim c.else-place-gt0.branch [
      | else-place-gt0-via-then-place-gt0+else-window-cover w ↦ λ h. omega arith
      | else-place-gt0-via-else-place-gt0 w ↦ λ h. absurd (omega arith)
    ] in
    λ k h.
    elim (cases_eq k i) [
      | inl same ↦ subst (λ n. IsWindowAt c.args.cover.now n) (sym same) (window_here c.args.cover.now i none c.loop-place-test.true (omega arith) up)
      | inr other ↦ c.loop-place.invariant k (omega arith)
    ]
