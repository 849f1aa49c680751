-- A quantile by nearest rank has its share of the numbers.
use Rattle.std.proofs.Common.{◌≡◌, ◌<◌, ◌≤◌, ◌+◌, ◌-◌, ◌*◌, ◌/◌, ℕ, zero, suc, List, [], ◌∷◌, length, get_or, Bool, true, false, count_by, refl, sym, ap, arith, ℤ, pos, IsPermutation}
use Rattle.std.specs.Prelude.{not}
use Rattle.std.specs.Ordering.{int_cmp}
use Rattle.std.specs.List.Sorted.{IsSorted}
use Rattle.std.proofs.lemmas.Cmp.{int_cmp_total}
use Rattle.std.proofs.lemmas.Option.{slice_get-get_or}
use Rattle.std.proofs.lemmas.List.Sorted.{ranks_by, sorted_far, sum_by-IsPermutation, length_permutation}
use Rattle.blk_report.specs.Spread.{is_less, IsShare, HaveShares, nearest_rank, at_rank, quantiles_of}
use Rattle.blk_report.proofs.Halving.{one_if, count_cons}

-- the first i pass
at_least : {X : Type 0} (p : X → Bool) (d : X) (xs : List X) (i : ℕ) → i ≤ length xs → ((j : ℕ) → j < i → p (get_or xs j d) ≡ true) → i ≤ count_by p xs
at_least p d xs zero h all = omega arith
at_least p d [] (suc i) h all = absurd (omega (arith, h))
at_least p d (x ∷ xs) (suc i) h all =
    let rest : i ≤ count_by p xs = at_least p d xs i (omega (arith, h)) (λ j lt. all (suc j) (omega (arith, lt))) in
    let first : one_if (p x) ≡ 1 = ap one_if (all 0 (omega arith)) in
    omega (arith, rest, first, count_cons p x xs)

one_at_most : (b : Bool) → one_if b ≤ 1
one_at_most true = omega arith
one_at_most false = omega arith

-- from i on none passes
at_most : {X : Type 0} (p : X → Bool) (d : X) (xs : List X) (i : ℕ) → ((j : ℕ) → i ≤ j → j < length xs → p (get_or xs j d) ≡ false) → count_by p xs ≤ i
at_most p d [] i none = omega arith
at_most p d (x ∷ xs) zero none =
    let rest : count_by p xs ≤ 0 = at_most p d xs 0 (λ j le lt. none (suc j) (omega arith) (omega (arith, lt))) in
    let first : one_if (p x) ≡ 0 = ap one_if (none 0 (omega arith) (omega arith)) in
    omega (arith, rest, first, count_cons p x xs)
at_most p d (x ∷ xs) (suc i) none =
    let rest : count_by p xs ≤ i = at_most p d xs i (λ j le lt. none (suc j) (omega (arith, le)) (omega (arith, lt))) in
    omega (arith, rest, one_at_most (p x), count_cons p x xs)

-- the rank is a place, with no fewer than the share before its end and fewer before it
rank_is : (m n : ℕ) → 0 < m → m ≤ 1000 * n → (0 < (m + 999) / 1000) × ((m + 999) / 1000 ≤ n) × (m ≤ 1000 * ((m + 999) / 1000)) × (1000 * ((m + 999) / 1000 - 1) < m)
rank_is m n some few = (omega arith, omega arith, omega arith, omega arith)

up : (m own r c d : ℕ) → m ≡ own → m ≤ 1000 * r → r ≤ c → c ≡ d → own ≤ 1000 * d
up m own r c d e h low same = omega (arith, e, h, low, same)

down : (m own r c d : ℕ) → m ≡ own → 1000 * (r - 1) < m → c ≤ r - 1 → c ≡ d → 1000 * d < own
down m own r c d e h high same = omega (arith, e, h, high, same)

nothing : {X : Type 0} (xs : List X) → length xs ≡ 0 → xs ≡ []
nothing [] h = refl
nothing (x ∷ xs) h = absurd (omega (arith, h))

pub share : (p : ℕ) (values sorted : List ℤ) → IsPermutation values sorted → IsSorted int_cmp sorted → (0 < length sorted → 0 < p * length sorted) → p * length sorted ≤ 1000 * length sorted → IsShare p values (at_rank p sorted)
share p values [] same rising some few = nothing values (sym (length_permutation values [] same))
share p values (x ∷ xs) same rising some few =
    let sorted : List ℤ = x ∷ xs in
    let n : ℕ = length sorted in
    let r : ℕ = nearest_rank p n in
    let is = rank_is (p * n) n (some (omega arith)) few in
    let q : ℤ = get_or sorted (r - 1) (pos 0) in
    let low : r ≤ count_by (λ y. not (is_less q y)) sorted =
    at_least (λ y. not (is_less q y)) (pos 0) sorted r is.1 (λ j lt. ap not (sorted_far is_less (ranks_by int_cmp_total (λ y. y)) sorted rising j (r - 1) (pos 0) (omega (arith, lt)) (omega (arith, is.0, is.1)))) in
    let high : count_by (λ y. is_less y q) sorted ≤ r - 1 =
    at_most (λ y. is_less y q) (pos 0) sorted (r - 1) (λ j le lt. sorted_far is_less (ranks_by int_cmp_total (λ y. y)) sorted rising (r - 1) j (pos 0) le lt) in
    let count : n ≡ length values = length_permutation values sorted same in
    let within = sum_by-IsPermutation (λ y. one_if (not (is_less q y))) values sorted same in
    let below = sum_by-IsPermutation (λ y. one_if (is_less y q)) values sorted same in
    let share_of : p * n ≡ p * length values = ap (λ k. p * k) count in
    rw (slice_get-get_or sorted (r - 1) (pos 0) (omega (arith, is.0, is.1))) record {
      within = up (p * n) (p * length values) r (count_by (λ y. not (is_less q y)) sorted) (count_by (λ y. not (is_less q y)) values) share_of is.2 low within;
      below = down (p * n) (p * length values) r (count_by (λ y. is_less y q) sorted) (count_by (λ y. is_less y q) values) share_of is.3 high below;
    }

pub shares : (values sorted : List ℤ) → IsPermutation values sorted → IsSorted int_cmp sorted → HaveShares values (quantiles_of sorted)
shares values sorted same rising = record {
  p50 = share 500 values sorted same rising (λ h. omega (arith, h)) (omega arith);
  p90 = share 900 values sorted same rising (λ h. omega (arith, h)) (omega arith);
  p99 = share 990 values sorted same rising (λ h. omega (arith, h)) (omega arith);
  p999 = share 999 values sorted same rising (λ h. omega (arith, h)) (omega arith);
  max = share 1000 values sorted same rising (λ h. omega (arith, h)) (omega arith);
}
