-- Lists of which the one has each element at least as many times as the other.
use Rattle.std.proofs.Common.{◌≡◌, ◌∙◌, ◌+◌, ◌<◌, ◌≤◌, ℕ, suc, ap, refl, subst, arith, inl, inr, Bool, true, false, cond, List, [], ◌∷◌, ◌++◌, length, length-append, get_or, count_by, IsPermutation, remove}
use Rattle.std.proofs.lemmas.List.Sums.{sum_by-cons, sum_by-append}
use Rattle.std.proofs.lemmas.Bool.{cases_Bool}
use Rattle.std.proofs.lemmas.List.{append-nil}
use Rattle.std.proofs.lemmas.List.Sorted.{IsPermutation-refl, IsPermutation-sym, IsPermutation-trans, IsPermutation-remove, IsPermutation-cons, length_permutation, sum_by-IsPermutation}

-- what a test counts of a list with one element more, and of two lists
pub count_cons : {X : Type 0} (p : X → Bool) (x : X) (xs : List X) → count_by p (x ∷ xs) ≡ cond (p x) 1 0 + count_by p xs
count_cons p x xs = sum_by-cons (λ y. cond (p y) 1 0) x xs

pub count_append : {X : Type 0} (p : X → Bool) (xs ys : List X) → count_by p (xs ++ ys) ≡ count_by p xs + count_by p ys
count_append p xs ys = sum_by-append (λ y. cond (p y) 1 0) xs ys

-- a permutation has as many of each
pub count_moved : {X : Type 0} (p : X → Bool) (xs ys : List X) → IsPermutation xs ys → count_by p ys ≡ count_by p xs
count_moved p xs ys h = sum_by-IsPermutation (λ x. cond (p x) 1 0) xs ys h

-- what is counted stands somewhere
stands : {X : Type 0} (p : X → Bool) (d : X) (xs : List X) → 0 < count_by p xs → (i : ℕ) × (i < length xs) × (p (get_or xs i d) ≡ true)
stands p d [] some = absurd (omega arith)
stands p d (x ∷ xs) some = elim (cases_Bool (p x)) [
  | inl on ↦ first p d x xs on
  | inr off ↦ later p d x xs off (stands p d xs (fewer p x xs off some))
]
  where
    first : {X : Type 0} (p : X → Bool) (d x : X) (xs : List X) → p x ≡ true → (i : ℕ) × (i < length (x ∷ xs)) × (p (get_or (x ∷ xs) i d) ≡ true)
    first p d x xs on = (0, omega arith, on)

    fewer : {X : Type 0} (p : X → Bool) (x : X) (xs : List X) → p x ≡ false → 0 < count_by p (x ∷ xs) → 0 < count_by p xs
    fewer p x xs off some =
        let zero_of : Bool → ℕ = λ b. cond b 1 0 in
        let none : zero_of (p x) ≡ zero_of false = ap zero_of off in
        omega (arith, count_cons p x xs, none, some)

    later : {X : Type 0} (p : X → Bool) (d x : X) (xs : List X) → p x ≡ false → ((i : ℕ) × (i < length xs) × (p (get_or xs i d) ≡ true)) → (i : ℕ) × (i < length (x ∷ xs)) × (p (get_or (x ∷ xs) i d) ≡ true)
    later p d x xs off r = (suc r.0, omega (arith, r.1), r.2)

-- one for what passes a test
abbrev number : Bool → ℕ
number b = cond b 1 0

module _ {X : Type 0} (same : X → X → Bool) (is : (x y : X) → same x y ≡ true → x ≡ y) (self : (x : X) → same x x ≡ true) where
  -- a list that has each element at least as many times has it all, and a rest
  pub has_all : (xs ys : List X) → ((q : X) → count_by (same q) xs ≤ count_by (same q) ys) → (rest : List X) × IsPermutation ys (xs ++ rest)
  has_all [] ys le = (ys, IsPermutation-refl ys)
  has_all (x ∷ xs) ys le =
      let mine : count_by (same x) (x ∷ xs) ≡ cond (same x x) 1 0 + count_by (same x) xs = count_cons (same x) x xs in
      let one : number (same x x) ≡ number true = ap number (self x) in
      let at = stands (same x) x ys (omega (arith, mine, one, le x)) in
      let there : x ≡ get_or ys at.0 x = is x (get_or ys at.0 x) at.2 in
      let moved : IsPermutation ys (x ∷ remove ys at.0) = IsPermutation-remove ys at.0 x at.1 there in
      let fewer : (q : X) → count_by (same q) xs ≤ count_by (same q) (remove ys at.0) = λ q. omega (arith, count_cons (same q) x xs, count_cons (same q) x (remove ys at.0), count_moved (same q) ys (x ∷ remove ys at.0) moved, le q) in
      let r = has_all xs (remove ys at.0) fewer in
      (r.0, IsPermutation-trans ys (x ∷ remove ys at.0) (x ∷ (xs ++ r.0)) moved (IsPermutation-cons x (remove ys at.0) (xs ++ r.0) r.1))

  -- a list that is no longer has nothing else
  pub no_rest : (xs ys : List X) → ((q : X) → count_by (same q) xs ≤ count_by (same q) ys) → length ys ≤ length xs → IsPermutation xs ys
  no_rest xs ys le few =
      let r = has_all xs ys le in
      let long : length (xs ++ r.0) ≡ length ys = length_permutation ys (xs ++ r.0) r.1 in
      let none : r.0 ≡ [] = nothing r.0 (omega (arith, long, length-append xs r.0, few)) in
      IsPermutation-sym ys xs (subst (IsPermutation ys) (ap (λ l. xs ++ l) none ∙ append-nil xs) r.1)
    where
      nothing : (l : List X) → length l ≤ 0 → l ≡ []
      nothing [] h = refl
      nothing (x ∷ l) h = absurd (omega arith)

  -- lists that have each element at least as many times as the other
  pub each_as_many : (xs ys : List X) → ((q : X) → count_by (same q) xs ≤ count_by (same q) ys) → ((q : X) → count_by (same q) ys ≤ count_by (same q) xs) → IsPermutation xs ys
  each_as_many xs ys le ge =
      let r = has_all ys xs ge in
      let long : length (ys ++ r.0) ≡ length xs = length_permutation xs (ys ++ r.0) r.1 in
      no_rest xs ys le (omega (arith, long, length-append ys r.0))
