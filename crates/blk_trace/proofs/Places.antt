-- Places in a list with one more event.
use Rattle.std.proofs.Common.{◌≡◌, ◌++◌, ℕ, zero, suc, List, [], ◌∷◌, length, take, refl, ◌∙◌, arith, inl, inr, Some}
use Rattle.std.specs.Prelude.{slice_get, ◌⊎◌}
use Rattle.std.proofs.lemmas.List.{take-append-le, take_all}
use Rattle.std.proofs.lemmas.Option.{slice_get_within}

-- an element of the longer list stands in the shorter one or is the last
pub split : {X : Type 0} (xs : List X) (y : X) (k : ℕ) (x : X) → slice_get (xs ++ y ∷ []) k ≡ Some x → (slice_get xs k ≡ Some x) ⊎ ((k ≡ length xs) × (y ≡ x))
split [] y zero x h = inr (refl, cc)
split [] y (suc k) x h = absurd (cc)
split (z ∷ xs) y zero x h = inl h
split (z ∷ xs) y (suc k) x h = elim (split xs y k x h) [ inl p ↦ inl p | inr p ↦ inr (omega (arith, p.0), p.1) ]

-- an element of a list stands in a longer one
pub keep : {X : Type 0} (xs ys : List X) (k : ℕ) (x : X) → slice_get xs k ≡ Some x → slice_get (xs ++ ys) k ≡ Some x
keep [] ys k x h = absurd (cc)
keep (z ∷ xs) ys zero x h = h
keep (z ∷ xs) ys (suc k) x h = keep xs ys k x h

-- the last element
pub last : {X : Type 0} (xs : List X) (y : X) → slice_get (xs ++ y ∷ []) (length xs) ≡ Some y
last [] y = refl
last (x ∷ xs) y = last xs y

-- what stands before a place of the shorter list
pub before : {X : Type 0} (xs ys : List X) (k : ℕ) (x : X) → slice_get xs k ≡ Some x → take k (xs ++ ys) ≡ take k xs
before xs ys k x h = take-append-le k xs ys (omega (arith, slice_get_within xs k x h))

-- what stands before the last one
pub before_last : {X : Type 0} (xs : List X) (y : X) (k : ℕ) → k ≡ length xs → take k (xs ++ y ∷ []) ≡ xs
before_last xs y k h = take-append-le k xs (y ∷ []) (omega arith) ∙ take_all k xs (omega arith)

-- what stands in the first part of a list stands in the list
pub of_take : {X : Type 0} (k : ℕ) (xs : List X) (i : ℕ) (x : X) → slice_get (take k xs) i ≡ Some x → slice_get xs i ≡ Some x
of_take zero xs i x h = absurd (cc)
of_take (suc k) [] i x h = absurd (cc)
of_take (suc k) (y ∷ xs) zero x h = h
of_take (suc k) (y ∷ xs) (suc i) x h = of_take k xs i x h
