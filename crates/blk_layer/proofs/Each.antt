-- Lists whose elements are those of a function, place by place.
use Rattle.std.proofs.Common.{◌≡◌, ◌∙◌, ◌+◌, ◌<◌, ℕ, List, [], ◌∷◌, ◌++◌, length, Some, refl, sym, ap, inl, inr, arith}
use Rattle.std.specs.Prelude.{slice_get}
use Rattle.std.proofs.lemmas.Bool.{cases_Bool, ltb-true, ltb-false}
use lib.Dec.{ltb}
use Rattle.blk_trace.proofs.Newness.{in_first, in_second}

-- one element more
pub each_more : {X : Type 0} (f : ℕ → X) (xs new : List X) (x : X) (n : ℕ) → length xs ≡ n → ((k : ℕ) → k < n → slice_get xs k ≡ Some (f k))
    → new ≡ xs ++ x ∷ [] → x ≡ f n → (k : ℕ) → k < n + 1 → slice_get new k ≡ Some (f k)
each_more f xs new x n count each added is k less = ap (λ l. slice_get l k) added ∙ elim (cases_Bool (ltb k n)) [
  | inl y ↦ in_first xs (x ∷ []) k (f k) (each k (ltb-true k n y))
  | inr m ↦
      let last : k ≡ length xs + 0 = omega (arith, count, less, ltb-false k n m) in
      let at : k ≡ n = omega (arith, count, last) in
      ap (λ i. slice_get (xs ++ x ∷ []) i) last ∙ in_second xs (x ∷ []) 0 x refl ∙ ap Some (is ∙ ap f (sym at))
]
