-- Requests counted by the clock.
use Rattle.std.proofs.Common.{◌≡◌, ◌<◌, ◌≤◌, ℕ, ◌+◌, Bool, cond, ◌&&◌, nat_le, nat_lt, List, [], ◌∷◌, get_or, count_by, ◌⊎◌, inl, inr, arith, refl}
use Rattle.std.proofs.lemmas.Bool.{cases_lt, leb-true, le-leb, lt-leb, lt-ltb, le-ltb, and_left, and_right}
use Rattle.std.proofs.lemmas.List.Sums.{sum_by-cons}
use Rattle.edd_commands.specs.declared.Command.{Command}
use Rattle.edd_oracle.proofs.Counting.{count_wider, count_none}
use Rattle.edd_blame.specs.Clock.{times_before, times_by, times_within, IsByClock, CameLate, IsStalled, HadDispatch}
use Rattle.edd_blame.specs.declared.late.Allowance.{Allowance}

-- what passes one of two tests that exclude each other
pub count_parts : {X : Type 0} (p q r : X → Bool) → ((x : X) → cond (p x) 1 0 + cond (q x) 1 0 ≡ cond (r x) 1 0) → (xs : List X) → count_by p xs + count_by q xs ≡ count_by r xs
count_parts p q r each [] = refl
count_parts p q r each (x ∷ xs) =
    omega (arith, count_parts p q r each xs, each x, sum_by-cons (λ y. cond (p y) 1 0) x xs, sum_by-cons (λ y. cond (q y) 1 0) x xs, sum_by-cons (λ y. cond (r y) 1 0) x xs)

-- a time up to the deadline comes before the release, or lies between the two
one_of : (r d x : ℕ) → r ≤ d → cond (nat_lt x r) 1 0 + cond (nat_le r x && nat_le x d) 1 0 ≡ cond (nat_le x d) 1 0
one_of r d x h =
    elim (cases_lt x r) [
      | inl before ↦ rw (lt-ltb x r before, lt-leb r x before, le-leb x d (omega arith)) refl
      | inr after ↦ rw (le-ltb x r after, le-leb r x after) (omega arith)
    ]

within_is : (times : List ℕ) (a : Allowance) → a.release ≤ a.deadline → times_before times a.release + times_within times a ≡ times_by times a.deadline
unfolding times_before times_within times_by
within_is times a h =
    count_parts (λ x. nat_lt x a.release) (λ x. nat_le a.release x && nat_le x a.deadline) (λ x. nat_le x a.deadline) (λ x. one_of a.release a.deadline x h) times

-- where the deadline comes first
by_before : (times : List ℕ) (a : Allowance) → a.deadline < a.release → times_by times a.deadline ≤ times_before times a.release
unfolding times_before times_by
by_before times a h =
    count_wider (λ x. nat_le x a.deadline) (λ x. nat_lt x a.release) (λ x yes. lt-ltb x a.release (omega (arith, leb-true x a.deadline yes))) times

none_within : (times : List ℕ) (a : Allowance) → a.deadline < a.release → times_within times a ≡ 0
unfolding times_within
none_within times a h =
    count_none (λ x. nat_le a.release x && nat_le x a.deadline) times
    (λ k d low. elim (cases_lt (get_or times k d) a.release) [
      | inl before ↦ and_left (nat_le a.release (get_or times k d)) (nat_le (get_or times k d) a.deadline) (lt-leb a.release (get_or times k d) before)
      | inr after ↦ and_right (nat_le a.release (get_or times k d)) (nat_le (get_or times k d) a.deadline) (lt-leb (get_or times k d) a.deadline (omega arith))
    ])

module _ (dispatches : List ℕ) (a : Allowance) (c : Command) (is : IsByClock dispatches a c) where
  -- released after its due round it came late or stalled
  pub late_parts : c.due < c.release → CameLate a ⊎ IsStalled dispatches a
  late_parts h =
      elim (cases_lt a.deadline a.release) [
        | inl late ↦ inl late
        | inr timely ↦ inr (timely, omega (arith, within_is dispatches a timely, is.0, is.1))
      ]

  pub late_came : CameLate a → c.due < c.release
  late_came h = omega (arith, by_before dispatches a h, is.0, is.1)

  pub stalled_came : IsStalled dispatches a → c.due < c.release
  stalled_came h = omega (arith, within_is dispatches a h.0, h.1, is.0, is.1)

  -- released by its due round just where something was dispatched in its time
  pub had_due : HadDispatch dispatches a → c.release ≤ c.due
  had_due h =
      elim (cases_lt a.deadline a.release) [
        | inl late ↦ absurd (omega (arith, none_within dispatches a late))
        | inr timely ↦ omega (arith, within_is dispatches a timely, is.0, is.1)
      ]

  pub due_had : c.release ≤ c.due → HadDispatch dispatches a
  due_had h =
      elim (cases_lt a.deadline a.release) [
        | inl late ↦ absurd (omega (arith, by_before dispatches a late, is.0, is.1))
        | inr timely ↦ omega (arith, within_is dispatches a timely, is.0, is.1)
      ]
