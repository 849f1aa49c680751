-- Sorted lists that are gone over side by side.
use Rattle.std.proofs.Common.{◌≡◌, ◌∙◌, ◌+◌, ◌<◌, ◌≤◌, ℕ, zero, suc, sym, ap, refl, subst, arith, inl, inr, Bool, true, false, cond, List, drop, length, get_or, count_by}
use Rattle.std.proofs.Common.{Ordering}
use Rattle.std.specs.Cmp.{IsTotalOrder, Equal-is, alike_right, tied_itself}
use Rattle.std.specs.Ordering.{is_eq, is_lt, ordering_reverse}
use Rattle.std.specs.declared.cmp.Ordering.TheVariants.{Less, Equal, Greater}
use Rattle.std.specs.List.Sorted.{IsSorted}
use Rattle.std.proofs.lemmas.Bool.{cases_Bool, ltb-true, ltb-false}
use Rattle.std.proofs.lemmas.List.{drop_all}
use Rattle.std.proofs.lemmas.List.Sums.{sum_by-drop_more}
use Rattle.std.proofs.lemmas.List.Sorted.{sorted_far}
use Rattle.std.proofs.lemmas.List.MinMax.{ranks_by}
use lib.Dec.{ltb}
use Rattle.blk_layer.specs.Inside.Closing.{times, AreAbreast, HasEach}

-- one for what passes a test
abbrev number : Bool → ℕ
number b = cond b 1 0

module _ {X : Type 0} (same : X → X → Bool) (cmp : X → X → Ordering) (o : IsTotalOrder cmp) (ties : (x y : X) → same x y ≡ is_eq (cmp x y)) where
  -- what is left of a list from a place on, and at its end
  left_more : (q d : X) (xs : List X) (i : ℕ) → i < length xs → times same q (drop i xs) ≡ number (same q (get_or xs i d)) + times same q (drop (i + 1) xs)
  unfolding times
  left_more q d xs i low = sum_by-drop_more (λ y. cond (same q y) 1 0) xs i d low

  pub none_left : (q : X) (xs : List X) (i : ℕ) → length xs ≤ i → times same q (drop i xs) ≡ 0
  unfolding times
  none_left q xs i all = ap (count_by (same q)) (drop_all i xs all)

  left_of : (q x : X) (xs : List X) (i : ℕ) → i < length xs → x ≡ get_or xs i x → times same q (drop i xs) ≡ number (same q x) + times same q (drop (i + 1) xs)
  left_of q x xs i low is = left_more q x xs i low ∙ ap (λ y. number (same q y) + times same q (drop (i + 1) xs)) (sym is)

  -- what is less than an element of a sorted list doesn't stand from there on
  apart : (q x y : X) (r : Ordering) → cmp q y ≡ r → cmp q x ≡ Less → is_lt (cmp y x) ≡ false → is_eq r ≡ false
  apart q x y Less e less high = refl
  apart q x y Equal e less high = absurd (let no : true ≡ false = ap is_lt (sym less ∙ o.congr q y x e) ∙ high in cc)
  apart q x y Greater e less high = refl

  pub none_below : (xs : List X) → IsSorted cmp xs → (i : ℕ) (q x : X) → i < length xs → x ≡ get_or xs i x → cmp q x ≡ Less → times same q (drop i xs) ≡ 0
  none_below xs up i q x low is less = from (length xs) i (omega arith) (omega arith)
    where
      from : (n j : ℕ) → i ≤ j → length xs ≤ j + n → times same q (drop j xs) ≡ 0
      from zero j ge all = none_left q xs j (omega (arith, all))
      from (suc n) j ge all = elim (cases_Bool (ltb j (length xs))) [
        | inl y ↦
            let there : j < length xs = ltb-true j (length xs) y in
            let high : is_lt (cmp (get_or xs j x) (get_or xs i x)) ≡ false = sorted_far (λ a b. is_lt (cmp a b)) (ranks_by o (λ a. a)) xs up i j x ge there in
            let not_here : is_lt (cmp (get_or xs j x) x) ≡ false = subst (λ z. is_lt (cmp (get_or xs j x) z) ≡ false) (sym is) high in
            let none : number (same q (get_or xs j x)) ≡ 0 = ap number (ties q (get_or xs j x) ∙ apart q x (get_or xs j x) (cmp q (get_or xs j x)) refl less not_here) in
            omega (arith, left_more q x xs j there, none, from n (j + 1) (omega (arith, ge)) (omega (arith, all)))
        | inr n' ↦ none_left q xs j (ltb-false j (length xs) n')
      ]

  -- the lists before the first step, and after one along both or along the other
  pub start : (xs ys : List X) → AreAbreast same xs ys 0 0
  start xs ys q =
      let a : times same q (drop 0 xs) ≡ times same q xs = refl in
      let b : times same q (drop 0 ys) ≡ times same q ys = refl in
      (omega (arith, a, b), λ some. omega (arith, a, b))

  pub step_both : (xs ys : List X) (i k : ℕ) (x y : X) → i < length xs → x ≡ get_or xs i x → k < length ys → y ≡ get_or ys k y → cmp x y ≡ Equal → AreAbreast same xs ys i k → AreAbreast same xs ys (i + 1) (k + 1)
  step_both xs ys i k x y li xi lk yk tied were q =
      let l = left_of q x xs i li xi in
      let m = left_of q y ys k lk yk in
      let n : number (same q x) ≡ number (same q y) = ap number (ties q x ∙ ap is_eq (alike_right o x y q tied) ∙ sym (ties q y)) in
      (omega (arith, l, m, n, (were q).0), λ some. omega (arith, l, m, n, (were q).1 (omega (arith, l, some))))

  pub step_other : (xs ys : List X) (i k : ℕ) (x y : X) → IsSorted cmp xs → i < length xs → x ≡ get_or xs i x → k < length ys → y ≡ get_or ys k y → cmp x y ≡ Greater → AreAbreast same xs ys i k → AreAbreast same xs ys i (k + 1)
  step_other xs ys i k x y up li xi lk yk more were q =
      let m = left_of q y ys k lk yk in
      elim (cases_Bool (same q y)) [
        | inl on ↦
            let tied : cmp q y ≡ Equal = (Equal-is (cmp q y)).0 (sym (ties q y) ∙ on) in
            let less : cmp q x ≡ Less = o.congr q y x tied ∙ o.antisymm y x ∙ ap ordering_reverse more in
            let none = none_below xs up i q x li xi less in
            (omega (arith, m, (were q).0), λ some. absurd (omega (arith, none, some)))
        | inr off ↦
            let n : number (same q y) ≡ 0 = ap number off in
            (omega (arith, m, n, (were q).0), λ some. omega (arith, m, n, (were q).1 some))
      ]

  -- an element of the list of which nothing is left in the other one, and a list that was gone over
  pub stands_more : (xs ys : List X) (i k : ℕ) (x : X) → i < length xs → x ≡ get_or xs i x → AreAbreast same xs ys i k → times same x (drop k ys) ≡ 0 → times same x ys < times same x xs
  stands_more xs ys i k x li xi were none =
      let l = left_of x x xs i li xi in
      let one : number (same x x) ≡ 1 = ap number (ties x x ∙ ap is_eq (tied_itself o x)) in
      omega (arith, l, one, none, (were x).1 (omega (arith, l, one)))

  pub gone_over : (xs ys : List X) (i k : ℕ) → length xs ≤ i → AreAbreast same xs ys i k → HasEach same ys xs
  gone_over xs ys i k all were q = omega (arith, none_left q xs i all, (were q).0)
