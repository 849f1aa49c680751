-- Answers of runs a step apart, one after the other.
use Rattle.std.proofs.Common.{ℕ, ◌≡◌, ◌∙◌, ◌∷◌, ◌++◌, [], List, Result, ◌<◌, ◌≤◌, ◌+◌, ◌*◌, ◌/◌, ◌%◌, inl, inr, arith, sym, ap, subst, length, get_or}
use Rattle.std.proofs.lemmas.List.{get_or_append_left, get_or_push, length_push}
use Rattle.std.proofs.lemmas.Bool.{cases_lt}
use Rattle.std.proofs.lemmas.Nat.{mul-le, div-add-mod'}
use denote.Param.Members.{Shared}
use Rattle.turns.specs.Inside.{AreAnswers, IsThreadShare}

-- the place after the last of them
pub next_place : (from step n place : ℕ) → place ≡ from + n * step → place + step ≡ from + (n + 1) * step
next_place from step n place at = omega (arith, at)

-- the answer of a run stands in the share of its rest, at its quotient
quotient_within : (from until step i n : ℕ) → until ≤ (from + i % step) + n * step → from + i < until → i / step < n
quotient_within from until step i n whole inside = elim (cases_lt (i / step) n) [
  | inl low ↦ low
  | inr high ↦
      let parts : i / step * step + i % step ≡ i = div-add-mod' i step in
      let same : step ≤ step = omega arith in
      let less : n * step ≤ i / step * step = mul-le n step (i / step) step high same in
      let a : ⊥ = omega (arith, parts, less, whole, inside) in
      absurd (a)
]

place_again : (from step i : ℕ) → (from + i % step) + i / step * step ≡ from + i
place_again from step i =
    let parts : i / step * step + i % step ≡ i = div-add-mod' i step in
    omega (arith, parts)

module _ {F X E : Type 0} (g : Shared F (ℕ × Unit {0}) (Result X E)) (f : F) (from step : ℕ) where
  -- one answer more
  pub one_more_answer : (all : List (Result X E)) (r : Result X E) (place : ℕ) → place ≡ from + length all * step → AreAnswers g f from step all → g.post f (place, tt) r → AreAnswers g f from step (all ++ r ∷ [])
  one_more_answer all r place at are is k e h =
      let A : ℕ → Result X E → Type 0 = λ n x. g.post f (n, tt) x in
      elim (cases_lt k (length all)) [
        | inl low ↦ subst (A (from + k * step)) (sym (get_or_append_left all (r ∷ []) e k low)) (are k e low)
        | inr high ↦
            let len : length (all ++ r ∷ []) ≡ length all + 1 = length_push all r in
            let last : length all ≡ k = omega (arith, h, len, high) in
            let here : place ≡ from + k * step = at ∙ ap (λ n. from + n * step) last in
            subst (A (from + k * step)) (sym (get_or_push all r e k last)) (subst (λ n. A n r) here is)
      ]

  -- the answer of a run, in the share where it stands
  pub answer_at : (until i : ℕ) (all : List (Result X E)) → IsThreadShare g f (from + i % step) until step all → from + i < until → (e : Result X E) → g.post f (from + i, tt) (get_or all (i / step) e)
  answer_at until i all is inside e =
      let A : ℕ → Type 0 = λ n. g.post f (n, tt) (get_or all (i / step) e) in
      subst A (place_again from step i) (is.each (i / step) e (quotient_within from until step i (length all) is.whole inside))
