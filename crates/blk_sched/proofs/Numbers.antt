-- Values are known by the lists of numbers that a scheduler keeps of them.
use Rattle.std.proofs.Common.{◌≡◌, ℕ, Bool, true, false, refl, arith, List, [], ◌∷◌}
use Rattle.blk_sched.specs.Policies.{switch_number}

pub one_switch : (a b : Bool) → switch_number a ≡ switch_number b → a ≡ b
one_switch true true h = refl
one_switch false false h = refl
one_switch true false h = let e : 1 ≡ 0 = h in absurd (omega (arith, e))
one_switch false true h = let e : 0 ≡ 1 = h in absurd (omega (arith, e))

pub head_of : (x y : ℕ) (xs ys : List ℕ) → x ∷ xs ≡ y ∷ ys → x ≡ y
head_of x y xs ys h = cc

pub tail_of : (x y : ℕ) (xs ys : List ℕ) → x ∷ xs ≡ y ∷ ys → xs ≡ ys
tail_of x y xs ys h = cc

pub none_is : (x : ℕ) (xs : List ℕ) → [] ≡ x ∷ xs → ⊥
none_is x xs h = absurd (cc)

pub some_is : (x : ℕ) (xs : List ℕ) → x ∷ xs ≡ [] → ⊥
some_is x xs h = absurd (cc)
