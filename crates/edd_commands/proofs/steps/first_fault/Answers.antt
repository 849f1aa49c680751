use Rattle.std.proofs.Common.{◌<◌, ◌-◌, ℕ, get_or, rules, inl, inr, arith, sym, subst}
use Rattle.std.proofs.lemmas.Bool.{cases_eq}
use Rattle.edd_commands.specs.Capacity.{IsStepAt}
use Rattle.edd_commands.proofs.InForce.{step_here}
use Rattle.edd_commands.proofs.steps.first_fault.Goals as goal
use Rattle.edd_commands.proofs.steps.first_fault.Goals.{else-place-gt0-via-then-place-gt0+else-step-steps, else-place-gt0-via-else-place-gt0}

pub loop-place-preserved : goal.loop-place-preserved
loop-place-preserved c =
    let i : ℕ = c.loop-place.place in
    let up : 0 < i → (get_or c.args.steps.now (i - 1) record { from = 0; depth = 0 }).from < (get_or c.args.steps.now i record { from = 0; depth = 0 }).from =
    elim c.else-place-gt0.branch [
      | else-place-gt0-via-then-place-gt0+else-step-steps w ↦ λ h. omega arith
      | else-place-gt0-via-else-place-gt0 w ↦ λ h. absurd (omega arith)
    ] in
    record {
      start = c.loop-place.invariant.start;
      before = λ k h.
          elim (cases_eq k i) [
            | inl same ↦ subst (λ n. IsStepAt c.args.steps.now n) (sym same) (step_here c.args.steps.now i record { from = 0; depth = 0 } c.loop-place-test.true up (omega arith) (omega arith) (omega arith))
            | inr other ↦ c.loop-place.invariant.before k (omega arith)
          ];
    }

pub returns-clause-none : goal.returns-clause-none
returns-clause-none c =
    record {
      some = search rules;
      start = c.loop-place.invariant.start;
      each = λ k h. c.loop-place.invariant.before k (omega arith);
    }
