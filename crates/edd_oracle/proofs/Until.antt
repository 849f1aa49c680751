-- One more than the last of the rounds.
use Rattle.std.proofs.Common.{◌≡◌, ◌<◌, ◌≤◌, ℕ, ◌+◌, ◌-◌, Option, Some, None, List, length, get_or, ◌⊎◌, inl, inr, arith, refl, ap, sym, ◌∙◌}
use Rattle.std.proofs.lemmas.List.{get_or_past}
use Rattle.std.proofs.lemmas.Bool.{cases_lt, cases_eq}
use Rattle.edd_oracle.specs.Inside.Leave.{IsAfter}

-- one more than the last of the first n
pub record IsAfterFirst (rounds : List (Option ℕ)) (n end : ℕ) : Type 0 where
  pub before : (k x : ℕ) → k < n → get_or rounds k None ≡ Some x → x < end
  pub last : (end ≡ 0) ⊎ ((k : ℕ) × (get_or rounds k None ≡ Some (end - 1)))

pub after_none : (rounds : List (Option ℕ)) → IsAfterFirst rounds 0 0
after_none rounds = record { before = λ k x h there. absurd (omega arith); last = inl refl }

-- a later round
pub after_later : (rounds : List (Option ℕ)) (n end x end' : ℕ) → IsAfterFirst rounds n end → get_or rounds n None ≡ Some x → end ≤ x → end' ≡ x + 1 → IsAfterFirst rounds (n + 1) end'
after_later rounds n end x end' so_far there up is_end =
    record {
      before = λ k y h at.
          elim (cases_eq k n) [
            | inl here ↦
                let both : Some x ≡ Some y = sym there ∙ ap (λ i. get_or rounds i None) (sym here) ∙ at in
                let same : x ≡ y = (cc) in
                omega arith
            | inr other ↦ omega (arith, so_far.before k y (omega arith) at)
          ];
      last = let same : x ≡ end' - 1 = omega arith in inr (n, there ∙ ap (λ i. Some i) same);
    }

-- one round is not two
pub below_by : {o : Option ℕ} (x y end : ℕ) → o ≡ Some x → o ≡ Some y → x < end → y < end
below_by x y end one other low =
    let both : Some x ≡ Some y = sym one ∙ other in
    let same : x ≡ y = (cc) in
    omega arith

-- no later round
pub after_same : (rounds : List (Option ℕ)) (n end : ℕ) → IsAfterFirst rounds n end → ((x : ℕ) → get_or rounds n None ≡ Some x → x < end) → IsAfterFirst rounds (n + 1) end
after_same rounds n end so_far low =
    record {
      before = λ k y h at.
          elim (cases_eq k n) [
            | inl here ↦ low y (ap (λ i. get_or rounds i None) (sym here) ∙ at)
            | inr other ↦ so_far.before k y (omega arith) at
          ];
      last = so_far.last;
    }

pub after_all : (rounds : List (Option ℕ)) (n end : ℕ) → IsAfterFirst rounds n end → length rounds ≤ n → IsAfter rounds end
after_all rounds n end so_far all =
    record {
      before = λ k x there.
          elim (cases_lt k n) [
            | inl low ↦ so_far.before k x low there
            | inr past ↦ let none : get_or rounds k None ≡ None = get_or_past rounds k None (omega arith) in absurd (cc)
          ];
      last = so_far.last;
    }
