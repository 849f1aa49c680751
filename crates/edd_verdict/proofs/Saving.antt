-- How many late commands are spare, beside how many could be saved.
use Rattle.std.proofs.Common.{◌≡◌, ◌<◌, ◌≤◌, ℕ, ◌+◌, Bool, true, false, cond, List, [], ◌∷◌, length, get_or, count_by, Option, Some, None, ◌⊎◌, inl, inr, arith, refl, ap, sym, ◌∙◌, subst}
use Rattle.std.specs.List.{zip}
use Rattle.std.proofs.lemmas.List.{get_or_default}
use Rattle.std.proofs.lemmas.List.Sums.{sum_by-cons}
use Rattle.std.proofs.lemmas.Bool.{leb-true, le-leb, lt-leb}
use Rattle.edd_commands.specs.declared.Command.{Command}
use Rattle.edd_check.specs.declared.Window.{Window}
use Rattle.edd_commands.specs.declared.steps.Step.{Step}
use Rattle.edd_commands.specs.Schedule.{IsLegal}
use Rattle.edd_check.specs.OnTime.{number_on_time, is_on_time, IsMostOnTime}
use Rattle.edd_oracle.proofs.Counting.{count_along, count_none, search_below}
use Rattle.edd_oracle.proofs.Pairs.{nobody, length_pairs, tested, untested}
use Rattle.edd_oracle.proofs.Filled.{Fills, on_time_most}
use Rattle.edd_verdict.specs.declared.Verdict.{Verdict}
use Rattle.edd_verdict.specs.declared.Verdict.TheVariants.{Arrival, Spare, Full}
use Rattle.edd_verdict.specs.Filled.{held_at}
use Rattle.edd_verdict.specs.Verdicts.{IsLate, IsSpare, IsVerdictAt, AreVerdicts, is_arrival, is_spare, is_full, arrivals_in, spares_in, fulls_in}
use Rattle.edd_verdict.proofs.Tallies.{count_along_fewer}

-- the window of a full verdict, or one of no rounds
abbrev window_of : Option Verdict → Window
window_of None = record { from = 1; due = 0 }
window_of (Some Arrival) = record { from = 1; due = 0 }
window_of (Some Spare) = record { from = 1; due = 0 }
window_of (Some (Full w)) = w

spare_is : (v : Option Verdict) → is_spare v ≡ true → v ≡ Some Spare
spare_is None h = absurd (cc)
spare_is (Some Arrival) h = absurd (cc)
spare_is (Some Spare) h = refl
spare_is (Some (Full w)) h = absurd (cc)

-- no verdict
abbrev is_none : Option Verdict → Bool
is_none None = true
is_none (Some Arrival) = false
is_none (Some Spare) = false
is_none (Some (Full w)) = false

abbrev one_if : Bool → ℕ
one_if b = cond b 1 0

kinds_one : (v : Option Verdict) → one_if (is_none v) + (one_if (is_arrival v) + one_if (is_full v) + one_if (is_spare v)) ≡ 1
kinds_one None = refl
kinds_one (Some Arrival) = refl
kinds_one (Some Spare) = refl
kinds_one (Some (Full w)) = refl

kinds_all : (vs : List (Option Verdict)) → count_by is_none vs + (count_by is_arrival vs + count_by is_full vs + count_by is_spare vs) ≡ length vs
kinds_all [] = refl
kinds_all (v ∷ vs) =
    omega (arith, kinds_all vs, kinds_one v, sum_by-cons (λ y. cond (is_none y) 1 0) v vs, sum_by-cons (λ y. cond (is_arrival y) 1 0) v vs, sum_by-cons (λ y. cond (is_full y) 1 0) v vs, sum_by-cons (λ y. cond (is_spare y) 1 0) v vs)

module _ (commands : List Command) (rounds : List ℕ) (steps : List Step) (verdicts : List (Option Verdict)) (legal : IsLegal commands rounds steps) (are : AreVerdicts commands rounds steps verdicts) where
  fills : (k : ℕ) (v : Option Verdict) → IsVerdictAt commands rounds steps k v → Fills commands rounds steps (window_of v)
  unfolding held_at
  fills k None at x low high = absurd (omega arith)
  fills k (Some Arrival) at x low high = absurd (omega arith)
  fills k (Some Spare) at x low high = absurd (omega arith)
  fills k (Some (Full w)) at x low high = at.1.1.filled x low high

  -- a late one that can be on time lies in its window, or is spare
  lies_or_spare : (k : ℕ) (v : Option Verdict) → IsVerdictAt commands rounds steps k v → (get_or commands k nobody).release ≤ (get_or commands k nobody).due → (get_or commands k nobody).due < get_or rounds k 0 → (((window_of v).from ≤ (get_or commands k nobody).release) × ((get_or commands k nobody).due ≤ (window_of v).due)) ⊎ (is_spare v ≡ true)
  lies_or_spare k None at can late = absurd (omega (arith, at nobody))
  lies_or_spare k (Some Arrival) at can late = absurd (omega (arith, at.1 nobody))
  lies_or_spare k (Some Spare) at can late = inr refl
  lies_or_spare k (Some (Full w)) at can late = inl (at.1.1.around.begins nobody, at.1.1.around.ends nobody)

  -- no legal schedule has more on time than are so here or are spare
  pub on_time_bound : (other : List ℕ) → IsLegal commands other steps → number_on_time commands other ≤ number_on_time commands rounds + spares_in verdicts
  unfolding spares_in
  on_time_bound other legal' =
      on_time_most commands rounds steps legal (λ k. window_of (get_or verdicts k None)) nobody (λ k h. fills k (get_or verdicts k None) (are.each k h)) is_spare verdicts None other are.one_each legal'
      (λ k h can late. lies_or_spare k (get_or verdicts k None) (are.each k h) can late)

  -- a spare one could be on time beside the others
  pub spare_more : (k : ℕ) → k < length commands → IsLate commands rounds k → (spare : IsSpare commands rounds steps k) → number_on_time commands rounds < number_on_time commands spare.schedule
  unfolding number_on_time
  spare_more k within late spare =
      let other : List ℕ = spare.schedule in
      let long : length (zip commands other) ≡ length commands = length_pairs commands other spare.legal.one_each in
      let long' : length (zip commands rounds) ≡ length commands = length_pairs commands rounds legal.one_each in
      count_along_fewer (λ p. is_on_time p.0 p.1) (λ p. is_on_time p.0 p.1) (zip commands rounds) (zip commands other) (long ∙ sym long')
      (λ j q e h yes.
      let j_in : j < length commands = omega (arith, long') in
      let in_time : is_on_time (get_or commands j nobody) (get_or rounds j 0) ≡ true = untested commands rounds (λ p. is_on_time p.0 p.1) true j nobody q legal.one_each j_in yes in
      tested commands other (λ p. is_on_time p.0 p.1) true j nobody e spare.legal.one_each j_in
      (le-leb (get_or other j 0) (get_or commands j nobody).due (spare.kept j nobody j_in (leb-true (get_or rounds j 0) (get_or commands j nobody).due in_time))))
      k (nobody, 0) (nobody, 0) (omega (arith, long'))
      (tested commands rounds (λ p. is_on_time p.0 p.1) false k nobody (nobody, 0) legal.one_each within (lt-leb (get_or rounds k 0) (get_or commands k nobody).due (late nobody)))
      (tested commands other (λ p. is_on_time p.0 p.1) true k nobody (nobody, 0) spare.legal.one_each within (le-leb (get_or other k 0) (get_or commands k nobody).due (spare.on_time nobody)))

  pub spare_found : 0 < spares_in verdicts → (k : ℕ) × (k < length commands) × IsLate commands rounds k × IsSpare commands rounds steps k
  unfolding spares_in
  spare_found some =
      elim (search_below (λ k. is_spare (get_or verdicts k None)) (length commands)) [
        | inl found ↦
            let at : IsVerdictAt commands rounds steps found.0 (Some Spare) = subst (λ (v : Option Verdict). IsVerdictAt commands rounds steps found.0 v) (spare_is (get_or verdicts found.0 None) found.2) (are.each found.0 found.1) in
            (found.0, found.1, at.0, at.1)
        | inr none ↦
            absurd (omega (arith, some, count_none is_spare verdicts (λ k d h. ap is_spare (get_or_default verdicts k d None h) ∙ none k (omega (arith, are.one_each)))))
      ]

  pub some_spare : (n : ℕ) → IsMostOnTime commands steps n → 0 < spares_in verdicts → number_on_time commands rounds < n
  some_spare n most some =
      let found = spare_found some in
      omega (arith, spare_more found.0 found.1 found.2 found.3, most.most found.3.schedule found.3.legal)

  pub avoidable_spare : (n : ℕ) → IsMostOnTime commands steps n → n ≤ number_on_time commands rounds + spares_in verdicts
  avoidable_spare n most = omega (arith, on_time_bound most.schedule most.legal, most.reached)

  none_on_time : (k : ℕ) (v : Option Verdict) → IsVerdictAt commands rounds steps k v → is_none v ≡ is_on_time (get_or commands k nobody) (get_or rounds k 0)
  none_on_time k None at = sym (le-leb (get_or rounds k 0) (get_or commands k nobody).due (at nobody))
  none_on_time k (Some Arrival) at = sym (lt-leb (get_or rounds k 0) (get_or commands k nobody).due (at.0 nobody))
  none_on_time k (Some Spare) at = sym (lt-leb (get_or rounds k 0) (get_or commands k nobody).due (at.0 nobody))
  none_on_time k (Some (Full w)) at = sym (lt-leb (get_or rounds k 0) (get_or commands k nobody).due (at.0 nobody))

  pub all_kinds : length commands ≡ number_on_time commands rounds + (arrivals_in verdicts + fulls_in verdicts + spares_in verdicts)
  unfolding number_on_time arrivals_in fulls_in spares_in
  all_kinds =
      let long : length (zip commands rounds) ≡ length commands = length_pairs commands rounds legal.one_each in
      let one : count_by is_none verdicts ≤ count_by (λ p. is_on_time p.0 p.1) (zip commands rounds) =
      count_along is_none (λ p. is_on_time p.0 p.1) verdicts (zip commands rounds) (long ∙ sym are.one_each)
      (λ k v q h yes.
      let k_in : k < length commands = omega (arith, are.one_each) in
      tested commands rounds (λ p. is_on_time p.0 p.1) true k nobody q legal.one_each k_in
      (sym (none_on_time k (get_or verdicts k None) (are.each k k_in)) ∙ ap is_none (get_or_default verdicts k None v h) ∙ yes)) in
      let two : count_by (λ p. is_on_time p.0 p.1) (zip commands rounds) ≤ count_by is_none verdicts =
      count_along (λ p. is_on_time p.0 p.1) is_none (zip commands rounds) verdicts (are.one_each ∙ sym long)
      (λ k q v h yes.
      let k_in : k < length commands = omega (arith, long) in
      ap is_none (get_or_default verdicts k v None (omega (arith, are.one_each))) ∙ none_on_time k (get_or verdicts k None) (are.each k k_in) ∙ untested commands rounds (λ p. is_on_time p.0 p.1) true k nobody q legal.one_each k_in yes) in
      omega (arith, one, two, kinds_all verdicts, are.one_each)
