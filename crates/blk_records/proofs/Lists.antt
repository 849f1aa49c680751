-- Lists of which each element has something.
use Rattle.std.proofs.Common.{◌≡◌, zero, suc, List, ◌∷◌, arith}
use Rattle.std.specs.Prelude.{All}

pub head_of : {A : Type 0} (P : A → Type 0) (x : A) (xs : List A) → All P (x ∷ xs) → P x
head_of P x xs h = h 0 x (omega arith)

pub tail_of : {A : Type 0} (P : A → Type 0) (x : A) (xs : List A) → All P (x ∷ xs) → All P xs
tail_of P x xs h k d l = h (suc k) d (omega (arith, l))

pub all_cons : {A : Type 0} (P : A → Type 0) (x : A) (xs : List A) → P x → All P xs → All P (x ∷ xs)
all_cons P x xs p h zero d l = p
all_cons P x xs p h (suc k) d l = h k d (omega (arith, l))

pub cons_same : {A : Type 0} (x y : A) (xs ys : List A) → x ∷ xs ≡ y ∷ ys → (x ≡ y) × (xs ≡ ys)
cons_same x y xs ys e = (cc e, cc e)
