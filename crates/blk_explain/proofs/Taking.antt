-- Records that are read one after the other.
use Rattle.std.proofs.Common.{◌≡◌, ◌+◌, ◌<◌, ◌≤◌, ◌∷◌, ℕ, zero, suc, true, false, List, [], length, get_or, drop, Option, Some, inl, inr, refl, add-one, arith}
use Rattle.std.proofs.lemmas.Bool.{cases_eq}
use Rattle.blk_records.specs.Sources.{Row, TakesRecord}

-- one more was read
pub record Taken (rows : List Row) (k : ℕ) (after : Option (List Row)) (fields : Row) : Type 0 where
  pub left : after ≡ Some (drop (suc k) rows)
  pub is_row : fields ≡ get_or rows k []
  pub in_rows : k < length rows

pub takes_one : (rows : List Row) (k : ℕ) (after : Option (List Row)) (fields : Row) → TakesRecord (Some (drop k rows)) after fields true → Taken rows k after fields
takes_one [] zero after fields t = absurd (cc t)
takes_one [] (suc k) after fields t = absurd (cc t)
takes_one (r ∷ rs) zero after fields t = record { left = t.2; is_row = t.1; in_rows = omega arith }
takes_one (r ∷ rs) (suc k) after fields t = let u = takes_one rs k after fields t in record { left = u.left; is_row = u.is_row; in_rows = let h = u.in_rows in omega (arith, h) }

-- there was none
pub takes_none : (rows : List Row) (k : ℕ) (after : Option (List Row)) (fields : Row) → TakesRecord (Some (drop k rows)) after fields false → length rows ≤ k
takes_none [] k after fields t = omega arith
takes_none (r ∷ rs) zero after fields t = absurd (cc t.0)
takes_none (r ∷ rs) (suc k) after fields t = let h = takes_none rs k after fields t in omega (arith, h)

-- past the last there is none
pub past_last : (rows : List Row) (k : ℕ) → length rows ≤ k → get_or rows k [] ≡ []
past_last [] k h = refl
past_last (r ∷ rs) zero h = absurd (omega (arith, h))
past_last (r ∷ rs) (suc k) h = past_last rs k (omega (arith, h))

-- the same, where an equation says what is left
pub takes_next : (rows : List Row) (k : ℕ) (left after : Option (List Row)) (fields : Row) → left ≡ Some (drop k rows) → TakesRecord left after fields true → after ≡ Some (drop (k + 1) rows)
takes_next rows k left after fields e t = rw (add-one k) (takes_one rows k after fields (rw e at t)).left

pub takes_row : (rows : List Row) (k : ℕ) (left after : Option (List Row)) (fields : Row) → left ≡ Some (drop k rows) → TakesRecord left after fields true → (fields ≡ get_or rows k []) × (k < length rows)
takes_row rows k left after fields e t = let u = takes_one rows k after fields (rw e at t) in (u.is_row, u.in_rows)

pub takes_last : (rows : List Row) (k : ℕ) (left after : Option (List Row)) (fields : Row) → left ≡ Some (drop k rows) → TakesRecord left after fields false → length rows ≤ k
takes_last rows k left after fields e t = takes_none rows k after fields (rw e at t)

-- one place more
pub one_more : (P : ℕ → Type 0) (n : ℕ) → ((j : ℕ) → j < n → P j) → P n → (j : ℕ) → j < n + 1 → P j
one_more P n below at j h = elim (cases_eq j n) [
  | inl same ↦ rw same at
  | inr other ↦ below j (omega (arith, h, other))
]
