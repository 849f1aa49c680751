-- What is found in a list, item by item.
use Rattle.std.proofs.Common.{◌≡◌, ◌∙◌, List, [], ◌∷◌, Some, None, ap, refl, true, false, cond, map, option_map, ℕ, zero, suc, ◌+◌, ◌<◌, arith, length, take, get_or}
use Rattle.std.specs.Prelude.{Bool, Option, find}

-- what is found after an item that is not it
after : {X : Type 0} (test : X → Bool) (x y : X) (xs front : List X) (b : Bool) → test x ≡ b → cond b (Some x) (find test front) ≡ None → (find test front ≡ None → find test xs ≡ Some y) → find test (x ∷ xs) ≡ Some y
after test x y xs front true e none rest = cc none
after test x y xs front false e none rest = rw e (rest none)

still : {X : Type 0} (test : X → Bool) (x : X) (xs front : List X) (b : Bool) → test x ≡ b → cond b (Some x) (find test front) ≡ None → (find test front ≡ None → find test xs ≡ None) → find test (x ∷ xs) ≡ None
still test x xs front true e none rest = cc none
still test x xs front false e none rest = rw e (rest none)

-- what is not among the first items is the next one where that is it, and else not among one item more
pub found_next : {X : Type 0} (test : X → Bool) (xs : List X) (i : ℕ) (d : X) → i < length xs → find test (take i xs) ≡ None → test (get_or xs i d) ≡ true → find test xs ≡ Some (get_or xs i d)
found_next test [] i d lt none is = absurd (omega (arith, lt))
found_next test (x ∷ xs) zero d lt none is = rw is refl
found_next test (x ∷ xs) (suc i) d lt none is = after test x (get_or xs i d) xs (take i xs) (test x) refl none (λ n. found_next test xs i d (omega (arith, lt)) n is)

not_yet : {X : Type 0} (test : X → Bool) (xs : List X) (i : ℕ) (d : X) → i < length xs → find test (take i xs) ≡ None → test (get_or xs i d) ≡ false → find test (take (suc i) xs) ≡ None
not_yet test [] i d lt none is = absurd (omega (arith, lt))
not_yet test (x ∷ xs) zero d lt none is = rw is refl
not_yet test (x ∷ xs) (suc i) d lt none is = still test x (take (suc i) xs) (take i xs) (test x) refl none (λ n. not_yet test xs i d (omega (arith, lt)) n is)

pub none_more : {X : Type 0} (test : X → Bool) (xs : List X) (i : ℕ) (d : X) → i < length xs → find test (take i xs) ≡ None → test (get_or xs i d) ≡ false → find test (take (i + 1) xs) ≡ None
none_more test xs i d lt none is = let on : i + 1 ≡ suc i = omega arith in ap (λ n. find test (take n xs)) on ∙ not_yet test xs i d lt none is

-- what is found among the values of a list
of_either : {X Y : Type 0} (f : X → Y) (b : Bool) (x : X) (o : Option X) (p : Option Y) → p ≡ option_map f o → cond b (Some (f x)) p ≡ option_map f (cond b (Some x) o)
of_either f true x o p e = refl
of_either f false x o p e = e

pub find_map : {X Y : Type 0} (test : Y → Bool) (f : X → Y) (xs : List X) → find test (map f xs) ≡ option_map f (find (λ x. test (f x)) xs)
find_map test f [] = refl
find_map test f (x ∷ xs) = of_either f (test (f x)) x (find (λ x. test (f x)) xs) (find test (map f xs)) (find_map test f xs)
