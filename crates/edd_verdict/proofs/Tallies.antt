-- Counts along lists, and lists made of a function.
use Rattle.std.proofs.Common.{◌≡◌, ◌<◌, ◌≤◌, ℕ, zero, suc, Bool, true, false, List, [], ◌∷◌, length, get_or, count_by, inl, inr, arith, refl}
use Rattle.std.proofs.lemmas.Bool.{cases_Bool}
use Rattle.edd_oracle.proofs.Counting.{count_yes, count_no, count_rest, count_along}

-- what passes at a place of the one list passes at that place of the other, which passes at one place more
pub count_along_fewer : {X Y : Type 0} (p : X → Bool) (q : Y → Bool) (xs : List X) (ys : List Y) → length ys ≡ length xs → ((k : ℕ) (d : X) (e : Y) → k < length xs → p (get_or xs k d) ≡ true → q (get_or ys k e) ≡ true) → (k : ℕ) (d : X) (e : Y) → k < length xs → p (get_or xs k d) ≡ false → q (get_or ys k e) ≡ true → count_by p xs < count_by q ys
count_along_fewer p q [] ys same along k d e h out inside = absurd (omega arith)
count_along_fewer p q (x ∷ xs) [] same along k d e h out inside = absurd (omega arith)
count_along_fewer p q (x ∷ xs) (y ∷ ys) same along zero d e h out inside =
    let rest : count_by p xs ≤ count_by q ys = count_along p q xs ys (omega arith) (λ k a b h. along (suc k) a b (omega arith)) in
    omega (arith, count_no p x xs out, count_yes q y ys inside)
count_along_fewer p q (x ∷ xs) (y ∷ ys) same along (suc k) d e h out inside =
    let rest : count_by p xs < count_by q ys = count_along_fewer p q xs ys (omega arith) (λ k a b h. along (suc k) a b (omega arith)) k d e (omega arith) out inside in
    elim (cases_Bool (p x)) [
      | inl passes ↦ omega (arith, rest, count_yes p x xs passes, count_yes q y ys (along 0 x y (omega arith) passes))
      | inr fails ↦ omega (arith, rest, count_no p x xs fails, count_rest q y ys)
    ]

-- the first n values of a function
pub tabled : {X : Type 0} → (ℕ → X) → ℕ → List X
tabled f zero = []
tabled f (suc n) = f 0 ∷ tabled (λ k. f (suc k)) n

pub tabled_length : {X : Type 0} (f : ℕ → X) (n : ℕ) → length (tabled f n) ≡ n
unfolding tabled
tabled_length f zero = refl
tabled_length f (suc n) = omega (arith, tabled_length (λ k. f (suc k)) n)

pub tabled_at : {X : Type 0} (f : ℕ → X) (n k : ℕ) (e : X) → k < n → get_or (tabled f n) k e ≡ f k
unfolding tabled
tabled_at f zero k e h = absurd (omega arith)
tabled_at f (suc n) zero e h = refl
tabled_at f (suc n) (suc k) e h = tabled_at (λ j. f (suc j)) n k e (omega arith)
