-- The causes that verdicts stand for are those of the clock, and each late request has one.
use Rattle.std.proofs.Common.{◌≡◌, ◌<◌, ℕ, Bool, cond, List, length, get_or, map, inl, inr, arith, refl, ap, sym, ◌∙◌, subst}
use Rattle.std.specs.Prelude.{Option, Some, None}
use Rattle.std.specs.List.{zip}
use Rattle.std.proofs.lemmas.Bool.{lt-ltb, le-ltb}
use Rattle.std.proofs.lemmas.List.{get_or_default, get_or-map, length-map}
use Rattle.std.proofs.lemmas.Slice.Zip.{get_or-zip, length-zip}
use Rattle.edd_commands.specs.declared.Command.{Command}
use Rattle.edd_commands.specs.declared.steps.Step.{Step}
use Rattle.edd_verdict.specs.declared.Verdict.{Verdict}
use Rattle.edd_verdict.specs.declared.Verdict.TheVariants as verdict
use Rattle.edd_verdict.specs.Laws.{HasOneVerdict}
use Rattle.edd_verdict.specs.Verdicts.{IsVerdict, IsVerdictAt, AreVerdicts}
use Rattle.edd_blame.specs.Clock.{IsByClock, AreByClock, CameLate, IsStalled, HadDispatch}
use Rattle.edd_blame.specs.Causes.{IsCause, IsCauseAt, AreCauses}
use Rattle.edd_blame.specs.Inside.{cause_by, causes_by}
use Rattle.edd_blame.specs.declared.late.Allowance.{Allowance}
use Rattle.edd_blame.specs.declared.late.Cause.{Cause}
use Rattle.edd_blame.specs.declared.late.Cause.TheVariants.{Arrival, Stall, Spare, Full}
use Rattle.edd_blame.proofs.Clocks.{late_parts, late_came, stalled_came, had_due, due_had}

abbrev pub nobody : Command
nobody = record { id = 0; release = 0; due = 0 }

abbrev pub nothing : Allowance
nothing = record { release = 0; deadline = 0 }

-- the verdict that a cause stands for
abbrev verdict_of : Cause → Verdict
verdict_of Arrival = verdict.Arrival
verdict_of Stall = verdict.Arrival
verdict_of Spare = verdict.Spare
verdict_of (Full w) = verdict.Full w

module _ (commands : List Command) (rounds : List ℕ) (steps : List Step) (allowances : List Allowance) (dispatches : List ℕ) (by_clock : AreByClock dispatches allowances commands) (k : ℕ) (within : k < length commands) where
  abbrev own : Allowance
  own = get_or allowances k nothing

  own_at : (a : Allowance) → own ≡ get_or allowances k a
  own_at a = get_or_default allowances k nothing a (omega (arith, by_clock.one_each))

  came_late : CameLate own → (a : Allowance) → CameLate (get_or allowances k a)
  came_late h a = subst (λ (x : Allowance). CameLate x) (own_at a) h

  stalled : IsStalled dispatches own → (a : Allowance) → IsStalled dispatches (get_or allowances k a)
  stalled h a = subst (λ (x : Allowance). IsStalled dispatches x) (own_at a) h

  had : HadDispatch dispatches own → (a : Allowance) → HadDispatch dispatches (get_or allowances k a)
  had h a = subst (λ (x : Allowance). HadDispatch dispatches x) (own_at a) h

  is_own : (c : Command) → IsByClock dispatches own (get_or commands k c)
  is_own c = by_clock.each k nothing c within

  -- the cause of a verdict
  cause_right : (v : Option Verdict) → IsVerdictAt commands rounds steps k v → IsCauseAt commands rounds steps allowances dispatches k (cause_by v own)
  cause_right None is = is
  cause_right (Some verdict.Arrival) is =
      let at : Bool → Type 0 = λ b. IsCauseAt commands rounds steps allowances dispatches k (cond b (Some Arrival) (Some Stall)) in
      elim (late_parts dispatches own (get_or commands k nobody) (is_own nobody) (is.1 nobody)) [
        | inl late ↦ subst at (sym (lt-ltb own.deadline own.release late)) (is.0, came_late late)
        | inr stall ↦ subst at (sym (le-ltb own.deadline own.release stall.0)) (is.0, stalled stall)
      ]
  cause_right (Some verdict.Spare) is = is
  cause_right (Some (verdict.Full w)) is =
      (is.0, (had (due_had dispatches own (get_or commands k nobody) (is_own nobody) (is.1.0 nobody)), is.1.1))

  some_cause : (v : Verdict) → IsVerdict commands rounds steps k v → (cause : Cause) × IsCause commands rounds steps allowances dispatches k cause
  some_cause verdict.Arrival is =
      elim (late_parts dispatches own (get_or commands k nobody) (is_own nobody) (is nobody)) [
        | inl late ↦ (Arrival, came_late late)
        | inr stall ↦ (Stall, stalled stall)
      ]
  some_cause verdict.Spare is = (Spare, is)
  some_cause (verdict.Full w) is = (Full w, (had (due_had dispatches own (get_or commands k nobody) (is_own nobody) (is.0 nobody)), is.1))

  verdict_right : (cause : Cause) → IsCause commands rounds steps allowances dispatches k cause → IsVerdict commands rounds steps k (verdict_of cause)
  verdict_right Arrival is = λ c. late_came dispatches own (get_or commands k c) (is_own c) (is nothing)
  verdict_right Stall is = λ c. stalled_came dispatches own (get_or commands k c) (is_own c) (is nothing)
  verdict_right Spare is = is
  verdict_right (Full w) is = (λ c. had_due dispatches own (get_or commands k c) (is_own c) (is.0 nothing), is.1)

  same_cause : (a b : Cause) → IsCause commands rounds steps allowances dispatches k a → IsCause commands rounds steps allowances dispatches k b → verdict_of a ≡ verdict_of b → a ≡ b
  same_cause Arrival Arrival is also same = refl
  same_cause Arrival Stall is also same = absurd (omega (arith, is nothing, (also nothing).0))
  same_cause Arrival Spare is also same = cc
  same_cause Arrival (Full w) is also same = cc
  same_cause Stall Arrival is also same = absurd (omega (arith, also nothing, (is nothing).0))
  same_cause Stall Stall is also same = refl
  same_cause Stall Spare is also same = cc
  same_cause Stall (Full w) is also same = cc
  same_cause Spare Arrival is also same = cc
  same_cause Spare Stall is also same = cc
  same_cause Spare Spare is also same = refl
  same_cause Spare (Full w) is also same = cc
  same_cause (Full w) Arrival is also same = cc
  same_cause (Full w) Stall is also same = cc
  same_cause (Full w) Spare is also same = cc
  same_cause (Full w) (Full v) is also same = cc

  pub one_cause : HasOneVerdict commands rounds steps k → (cause : Cause) × IsCause commands rounds steps allowances dispatches k cause × ((other : Cause) → IsCause commands rounds steps allowances dispatches k other → other ≡ cause)
  one_cause one =
      let found = some_cause one.0 one.1 in
      (found.0, found.1, λ other is. same_cause other found.0 is found.1 (one.2 (verdict_of other) (verdict_right other is) ∙ sym (one.2 (verdict_of found.0) (verdict_right found.0 found.1))))

pub all_causes : (commands : List Command) (rounds : List ℕ) (steps : List Step) (allowances : List Allowance) (dispatches : List ℕ) (verdicts : List (Option Verdict)) → AreByClock dispatches allowances commands → AreVerdicts commands rounds steps verdicts → AreCauses commands rounds steps allowances dispatches (causes_by verdicts allowances)
unfolding causes_by
all_causes commands rounds steps allowances dispatches verdicts by_clock are =
    let long : length (zip verdicts allowances) ≡ length commands = omega (arith, length-zip verdicts allowances, are.one_each, by_clock.one_each) in
    record {
      one_each = length-map (zip verdicts allowances) (λ p. cause_by p.0 p.1) ∙ long;
      each = λ k h.
          let at : get_or (map (λ p. cause_by p.0 p.1) (zip verdicts allowances)) k None ≡ cause_by (get_or verdicts k None) (get_or allowances k nothing) =
          get_or-map (λ p. cause_by p.0 p.1) (zip verdicts allowances) k (None, nothing) None (omega (arith, long))
          ∙ ap (λ (p : Option Verdict × Allowance). cause_by p.0 p.1) (get_or-zip verdicts allowances k (None, nothing) (omega (arith, are.one_each)) (omega (arith, by_clock.one_each))) in
          subst (λ c. IsCauseAt commands rounds steps allowances dispatches k c) (sym at)
          (cause_right commands rounds steps allowances dispatches by_clock k h (get_or verdicts k None) (are.each k h));
    }
