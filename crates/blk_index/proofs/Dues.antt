-- The request that is due first.
use Rattle.std.proofs.Common.{◌≡◌, ◌<◌, ◌≤◌, ℕ, Bool, true, false, sym, ap, ◌∙◌, refl, arith, inl, inr, Some, None, Option}
use Rattle.std.specs.Prelude.{IfSome, IfNone}
use Rattle.std.specs.Ordering.{nat_cmp, ordering_then, is_eq, is_gt}
use Rattle.std.specs.Cmp.{nat_cmp_total, ranked, tied_itself}
use Rattle.std.specs.declared.cmp.Ordering.TheVariants.{Less, Equal, Greater}
use Rattle.ordered.specs.Ordered.{IsLeast, IsLeastFrom, NoneFrom as NoneListed}
use Rattle.blk_sched.specs.Meaning.{Waiting}
use Rattle.blk_index.specs.Index.{IsBefore, IsFirstFrom, NoneFrom}
use Rattle.blk_index.specs.Keys.{keyed_cmp, AreKeyed}
use Rattle.blk_index.specs.Inside.Spots.{due_of}
use Rattle.blk_index.proofs.Indexed.{Found}
use Rattle.blk_index.proofs.Keyed.{has_key, keyed}
use Rattle.blk_index.proofs.Listed.{eq_of, is_equal}

abbrev Has : Type 0
Has = ℕ × ℕ → Bool

above : (a i b k : ℕ) → IsBefore b k a i → is_gt (keyed_cmp nat_cmp (a, i) (b, k)) ≡ true
above a i b k before =
    elim (nat_cmp a b) as (λ o. nat_cmp a b ≡ o → is_gt (ordering_then o (nat_cmp i k)) ≡ true) [
      | Less ↦ λ e. absurd (let low : a < b = ranked a b Less (sym e) in elim before [ inl lt ↦ omega arith | inr tie ↦ omega (arith, tie.0) ])
      | Equal ↦ λ e.
          let same : a ≡ b = ranked a b Equal (sym e) in
          elim (nat_cmp i k) as (λ o. nat_cmp i k ≡ o → is_gt o ≡ true) [
            | Less ↦ λ f. absurd (let low : i < k = ranked i k Less (sym f) in elim before [ inl lt ↦ omega arith | inr tie ↦ omega (arith, tie.1) ])
            | Equal ↦ λ f. absurd (let tied : i ≡ k = ranked i k Equal (sym f) in elim before [ inl lt ↦ omega arith | inr tie ↦ omega (arith, tie.1) ])
            | Greater ↦ λ _. refl
          ] refl
      | Greater ↦ λ _. refl
    ] refl

not_above_zero : (k : ℕ) → is_gt (nat_cmp 0 k) ≡ false
not_above_zero k = elim (nat_cmp 0 k) as (λ o. nat_cmp 0 k ≡ o → is_gt o ≡ false) [
  | Less ↦ λ _. refl
  | Equal ↦ λ _. refl
  | Greater ↦ λ e. absurd (let low : k < 0 = ranked 0 k Greater (sym e) in omega arith)
] refl

from_here : (s d k : ℕ) → s ≤ d → is_gt (keyed_cmp nat_cmp (s, 0) (d, k)) ≡ false
from_here s d k le = elim (nat_cmp s d) as (λ o. nat_cmp s d ≡ o → is_gt (ordering_then o (nat_cmp 0 k)) ≡ false) [
  | Less ↦ λ _. refl
  | Equal ↦ λ _. not_above_zero k
  | Greater ↦ λ e. absurd (let low : d < s = ranked s d Greater (sym e) in omega arith)
] refl

is_from : (s d k : ℕ) → is_gt (keyed_cmp nat_cmp (s, 0) (d, k)) ≡ false → s ≤ d
is_from s d k h = elim (nat_cmp s d) as (λ o. nat_cmp s d ≡ o → is_gt (ordering_then o (nat_cmp 0 k)) ≡ false → s ≤ d) [
  | Less ↦ λ e _. let low : s < d = ranked s d Less (sym e) in omega arith
  | Equal ↦ λ e _. let same : s ≡ d = ranked s d Equal (sym e) in omega arith
  | Greater ↦ λ e g. absurd (cc)
] refl h

-- the least of all is that of those from round 0 on
pub some_of_all : (has : Has) (due : ℕ) (r : Option (ℕ × ℕ)) → due ≡ 0 → IfSome r (IsLeast (keyed_cmp nat_cmp) has) → IfSome r (IsLeastFrom (keyed_cmp nat_cmp) has (due, 0))
some_of_all has due None zero first = tt
some_of_all has due (Some p) zero first = record {
  there = first.there;
  high = from_here due p.0 p.1 (omega (arith, zero));
  least = λ q _ there. first.least q there;
}

pub none_of_all : (has : Has) (due : ℕ) (r : Option (ℕ × ℕ)) → IfNone r ((q : ℕ × ℕ) → has q ≡ false) → IfNone r (NoneListed (keyed_cmp nat_cmp) has (due, 0))
none_of_all has due None none = λ q _. none q
none_of_all has due (Some p) none = tt

due_then : (due : ℕ) (o : Option Waiting) → has_key nat_cmp due_of due o ≡ true → (w : Waiting) × (o ≡ Some w) × (w.due ≡ due)
due_then due None h = absurd (cc)
due_then due (Some w) h = (w, refl, eq_of w.due due (is_equal (nat_cmp w.due due) h))

module _ (found : Found) (has : Has) (start : ℕ) (are : AreKeyed nat_cmp due_of found has) where
  stands : (k : ℕ) (v : Waiting) → found k ≡ Some v → has (v.due, k) ≡ true
  stands k v there = keyed nat_cmp due_of found has are v.due k ∙ ap (has_key nat_cmp due_of v.due) there ∙ ap is_eq (tied_itself nat_cmp_total v.due)

  pub first_due : (p : ℕ × ℕ) → IsLeastFrom (keyed_cmp nat_cmp) has (start, 0) p → IsFirstFrom start found p.1
  first_due (due, id) p =
      let at = due_then due (found id) (sym (keyed nat_cmp due_of found has are due id) ∙ p.there) in
      let w : Waiting = at.0 in
      let low : start ≤ due = is_from start due id p.high in
      record {
        waiting = w;
        is_found = at.1;
        from_start = omega (arith, at.2);
        least = λ k v there late before.
            let not_greater : is_gt (keyed_cmp nat_cmp (due, id) (v.due, k)) ≡ false = p.least (v.due, k) (from_here start v.due k late) (stands k v there) in
            let greater : is_gt (keyed_cmp nat_cmp (w.due, id) (v.due, k)) ≡ true = above w.due id v.due k before in
            let moved : is_gt (keyed_cmp nat_cmp (due, id) (v.due, k)) ≡ true = ap (λ n. is_gt (keyed_cmp nat_cmp (n, id) (v.due, k))) (sym at.2) ∙ greater in
            let clash : true ≡ false = sym moved ∙ not_greater in cc;
      }

  pub none_due : NoneListed (keyed_cmp nat_cmp) has (start, 0) → NoneFrom start found
  none_due none k v there late = let clash : true ≡ false = sym (stands k v there) ∙ none (v.due, k) (from_here start v.due k late) in cc
