-- Each legal schedule has verdicts, and by spare commands one comes from it to the most on time.
use Rattle.std.proofs.Common.{◌≡◌, ◌<◌, ◌≤◌, ℕ, ◌+◌, zero, suc, List, length, get_or, Option, Some, None, inl, inr, arith, ap, sym, subst}
use Rattle.std.proofs.lemmas.Bool.{cases_lt}
use Rattle.std.proofs.lemmas.List.{get_or_default}
use Rattle.edd_commands.specs.declared.Command.{Command}
use Rattle.edd_commands.specs.declared.steps.Step.{Step}
use Rattle.edd_commands.specs.Schedule.{IsLegal}
use Rattle.edd_check.specs.OnTime.{number_on_time, IsMostOnTime}
use Rattle.edd_oracle.proofs.Pairs.{nobody}
use Rattle.edd_verdict.specs.declared.Verdict.{Verdict}
use Rattle.edd_verdict.specs.Laws.{HaveVerdicts, MostKeepsOnTime}
use Rattle.edd_verdict.specs.Verdicts.{IsLate, IsVerdictAt, Keeps}
use Rattle.edd_verdict.proofs.Judging.{some_verdict}
use Rattle.edd_verdict.proofs.Saving.{avoidable_spare, spare_found, spare_more}
use Rattle.edd_verdict.proofs.Tallies.{tabled, tabled_length, tabled_at}

module _ (commands : List Command) (rounds : List ℕ) (steps : List Step) where
  verdict_at : IsLegal commands rounds steps → (k : ℕ) → (v : Option Verdict) × (k < length commands → IsVerdictAt commands rounds steps k v)
  verdict_at legal k =
      elim (cases_lt k (length commands)) [
        | inr past ↦ (None, λ h. absurd (omega arith))
        | inl within ↦
            let due : (d : Command) → (get_or commands k nobody).due ≡ (get_or commands k d).due = λ d. ap (λ (c : Command). c.due) (get_or_default commands k nobody d within) in
            elim (cases_lt (get_or commands k nobody).due (get_or rounds k 0)) [
              | inl after ↦
                  let late : IsLate commands rounds k = λ d. omega (arith, due d) in
                  let found = some_verdict commands rounds steps legal k within late in
                  (Some found.0, λ _. (late, found.1))
              | inr by ↦ (None, λ _ d. omega (arith, due d))
            ]
      ]

  pub have_verdicts : HaveVerdicts commands rounds steps
  have_verdicts legal =
      let told : ℕ → Option Verdict = λ k. (verdict_at legal k).0 in (
        tabled told (length commands),
        record {
          one_each = tabled_length told (length commands);
          each = λ k h. subst (λ v. IsVerdictAt commands rounds steps k v) (sym (tabled_at told (length commands) k None h)) ((verdict_at legal k).1 h);
        },
      )

climb : (commands : List Command) (steps : List Step) (n : ℕ) (rounds : List ℕ) (most : ℕ) → IsLegal commands rounds steps → IsMostOnTime commands steps most → most ≤ number_on_time commands rounds + n → (best : List ℕ) × IsLegal commands best steps × Keeps commands rounds best × (number_on_time commands best ≡ most)
climb commands steps zero rounds most legal is near = (rounds, legal, (λ j d h in_time. in_time), omega (arith, is.most rounds legal))
climb commands steps (suc n) rounds most legal is near =
    elim (cases_lt (number_on_time commands rounds) most) [
      | inr reached ↦ (rounds, legal, (λ j d h in_time. in_time), omega (arith, is.most rounds legal))
      | inl fewer ↦
          let told = have_verdicts commands rounds steps legal in
          let one = spare_found commands rounds steps told.0 legal told.1 (omega (arith, avoidable_spare commands rounds steps told.0 legal told.1 most is)) in
          let more = spare_more commands rounds steps told.0 legal told.1 one.0 one.1 one.2 one.3 in
          let rest = climb commands steps n one.3.schedule most one.3.legal is (omega (arith, more)) in
          (rest.0, rest.1, (λ j d h in_time. rest.2 j d h (one.3.kept j d h in_time)), rest.3)
    ]

-- step by step to the most
pub most_keeps : (commands : List Command) (rounds : List ℕ) (steps : List Step) → MostKeepsOnTime commands rounds steps
most_keeps commands rounds steps most legal is = climb commands steps most rounds most legal is (omega arith)
