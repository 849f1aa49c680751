-- Processes, or processors, are counted in any order of them.
use Rattle.std.proofs.Common.{◌≡◌, ◌+◌, ℕ, List, cond, count_by, nat_lt, nat_le, inl, inr, arith, refl}
use Rattle.std.specs.Prelude.{◌==◌, IsPermutation}
use Rattle.std.proofs.lemmas.Bool.{cases_lt, lt-ltb, le-ltb, lt-leb, le-leb}
use Rattle.std.proofs.lemmas.Bool.Decides.{eqb_tells}
use Rattle.std.proofs.lemmas.List.Sorted.{sum_by-IsPermutation}
use Rattle.edd_blame.proofs.Clocks.{count_parts}
use Rattle.blk_capture.specs.declared.requests.CapturedRequest.{CapturedRequest}
use Rattle.blk_blame.specs.LateGroups.{late_group_keys, number_late_of}
use Rattle.blk_blame.specs.declared.grouped.GroupedBy.{GroupedBy}

-- a number that is no greater is less or the same
one_of : (p x : ℕ) → cond (nat_lt x p) 1 0 + cond (x == p) 1 0 ≡ cond (nat_le x p) 1 0
one_of p x =
    elim (eqb_tells x p) [
      | inl same ↦ rw (le-ltb x p (omega (arith, same.1)), le-leb x p (omega (arith, same.1)), same.0) refl
      | inr other ↦
          elim (cases_lt x p) [
            | inl less ↦ rw (lt-ltb x p less, le-leb x p (omega arith), other.0) refl
            | inr above ↦
                elim (cases_lt p x) [
                  | inl more ↦ rw (le-ltb x p above, lt-leb x p more, other.0) refl
                  | inr least ↦ absurd (other.1 (omega arith))
                ]
          ]
    ]

pub counted_of : (by : GroupedBy) (requests : List CapturedRequest) (sorted : List ℕ) (key : ℕ) → IsPermutation (late_group_keys by requests) sorted
    → count_by (λ x. nat_lt x key) sorted + number_late_of by requests key ≡ count_by (λ x. nat_le x key) sorted
counted_of by requests sorted key same =
    omega (arith, count_parts (λ x. nat_lt x key) (λ x. x == key) (λ x. nat_le x key) (one_of key) sorted, sum_by-IsPermutation (λ x. cond (x == key) 1 0) (late_group_keys by requests) sorted same)
