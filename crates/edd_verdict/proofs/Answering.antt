-- What is judged by all filled windows is the verdict.
use Rattle.std.proofs.Common.{◌≡◌, ◌<◌, ◌≤◌, ℕ, List, length, get_or, Option, Some, None, inl, inr, arith, ap, subst}
use Rattle.std.proofs.lemmas.Bool.{cases_lt, cases_order}
use Rattle.edd_commands.specs.declared.Command.{Command}
use Rattle.edd_check.specs.declared.Window.{Window}
use Rattle.edd_commands.specs.declared.steps.Step.{Step}
use Rattle.edd_commands.specs.Schedule.{IsLegal}
use Rattle.edd_verdict.specs.declared.Verdict.{Verdict}
use Rattle.edd_verdict.specs.declared.Verdict.TheVariants.{Arrival, Spare, Full}
use Rattle.edd_verdict.specs.Filled.{IsFilled, IsAround, IsFirstFilled}
use Rattle.edd_verdict.specs.Verdicts.{IsVerdictAt, AreVerdicts, CanBeOnTime}
use Rattle.edd_verdict.specs.Inside.Open.{AreFilled, IsFirstOf, IsJudged, AreJudged}
use Rattle.edd_oracle.proofs.Pairs.{nobody}
use Rattle.edd_verdict.proofs.Judging.{none_spare}

module _ (commands : List Command) (rounds : List ℕ) (steps : List Step) (windows : List Window) (legal : IsLegal commands rounds steps) (are : AreFilled commands rounds steps windows) where
  -- a wider window is around it too
  wider : (v w : Window) (k : ℕ) → w.from ≤ v.from → v.due ≤ w.due → IsAround commands v k → IsAround commands w k
  wider v w k low high around =
      record {
        begins = λ d. omega (arith, around.begins d);
        ends = λ d. omega (arith, around.ends d);
      }

  -- the window that a filled one ends with
  near : (k : ℕ) (v : Window) → CanBeOnTime commands k → IsFilled commands rounds steps v → IsAround commands v k → (i : ℕ) × (i < length windows) × ((e : Window) → ((get_or windows i e).due ≡ v.due) × ((get_or windows i e).from ≤ v.from) × IsAround commands (get_or windows i e) k)
  near k v can filled around =
      let found = are.all v filled (omega (arith, around.begins nobody, around.ends nobody, can nobody)) in
      (found.0, found.1, λ e. let is = found.2 e in (is.0, is.1, wider v (get_or windows found.0 e) k is.1 (omega (arith, is.0)) around))

  first_filled : (k : ℕ) (w : Window) → CanBeOnTime commands k → IsFirstOf commands windows k w → IsFirstFilled commands rounds steps k w
  first_filled k w can first =
      record {
        filled = subst (λ (v : Window). IsFilled commands rounds steps v) (first.here w) (are.each first.place w first.within);
        around = first.around;
        first = λ v filled around.
            let found = near k v can filled around in
            let is = found.2 w in
            let low : w.due ≤ (get_or windows found.0 w).due = first.first found.0 w found.1 is.2 in
            elim (cases_lt w.due v.due) [
              | inl sooner ↦ inl sooner
              | inr not_sooner ↦
                  let same : w.due ≡ v.due = omega (arith, is.0) in
                  let own : (get_or windows first.place w).due ≡ w.due = ap (λ (u : Window). u.due) (first.here w) in
                  let begins : (get_or windows first.place w).from ≡ w.from = ap (λ (u : Window). u.from) (first.here w) in
                  elim (cases_order found.0 first.place) [
                    | inl here ↦ inr (same, omega (arith, is.1, ap (λ i. (get_or windows i w).from) here))
                    | inr other ↦ elim other [
                      | inl before ↦ absurd (omega (arith, are.rising found.0 first.place w before first.within, is.0))
                      | inr after ↦ absurd (omega (arith, are.rising first.place found.0 w after found.1, is.0))
                    ]
                  ]
            ];
      }

  judged_verdict : (k : ℕ) → k < length commands → (v : Option Verdict) → IsJudged commands rounds windows k v → IsVerdictAt commands rounds steps k v
  judged_verdict k within None is = is
  judged_verdict k within (Some Arrival) is = is
  judged_verdict k within (Some Spare) is =
      (is.0, none_spare commands rounds steps legal k within is.0 is.1 (λ w filled around. let found = near k w is.1 filled around in is.2 found.0 w found.1 (found.2 w).2))
  judged_verdict k within (Some (Full w)) is = (is.0, (is.1, first_filled k w is.1 is.2))

  pub all_verdicts : (verdicts : List (Option Verdict)) → AreJudged commands rounds windows verdicts → AreVerdicts commands rounds steps verdicts
  all_verdicts verdicts judged =
      record { one_each = judged.one_each; each = λ k h. judged_verdict k h (get_or verdicts k None) (judged.each k h) }
