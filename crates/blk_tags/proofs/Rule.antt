-- Each step keeps the tag rule.
use Rattle.std.proofs.Common.{◌≡◌, ◌≢◌, ◌+◌, ◌-◌, ◌/◌, ◌%◌, ◌<◌, ◌≤◌, ◌^◌, ◌==◌, ◌∙◌, ℕ, zero, suc, List, [], ◌∷◌, ◌++◌, refl, sym, ap, subst, inl, inr, arith, bit_and, bit_or, length-set}
use Rattle.std.specs.Prelude.{slice_index, slice_set}
use Rattle.std.specs.Int.{bit_at}
use Rattle.std.proofs.lemmas.Bool.{cases_Bool, eqb-true, eq-eqb}
use mathlib.Core.Option.{none, some}
use lib.ListN.{get_elem?}
use Rattle.std.proofs.lemmas.Nat.Bits.{bit_at-zero}
use Rattle.atomic_table.specs.Table.{State, Me, step, opening, Allows, keeps}
use Rattle.blk_tags.specs.Tags.{Held, no_tags, stepped_for, count_of, without}
use Rattle.blk_tags.specs.Steps.{TagsAreHeldOnce, bit_of, total_of}
use Rattle.blk_tags.specs.Inside.{took, gave}
use Rattle.blk_tags.proofs.Counts.{count_push_same, count_push_other, none_left, others_left, total_set, total_push, count_most}
use Rattle.blk_tags.proofs.Bits.{bit_cases, low, same_place, same_power, same_mask, bit_here, bit_other, set_same, set_other, clear_same, clear_other}

module _ {S : Type 0} (depth : ℕ) (s : State S Held) (id t : ℕ) (v : Held) (below : t < depth) (few : depth ≤ 256) (h : TagsAreHeldOnce depth s) (at : get_elem? s.views id ≡ some v) where
  abbrev word : ℕ
  word = slice_index s.words (t / 64)

  abbrev after : ℕ → Held → State S Held
  after n w = record { words = slice_set s.words (t / 64) n; homes = s.homes; views = slice_set s.views id w }

  -- the rule is kept where the tag's bit changes as the seat's count of it, and nothing else changes
  kept : (n : ℕ) (w : Held) → bit_at n (t % 64) + count_of t v.tags ≡ bit_of s.words t + count_of t w.tags → ((u : ℕ) → u ≢ t → bit_of (slice_set s.words (t / 64) n) u ≡ bit_of s.words u)
      → ((u : ℕ) → u ≢ t → count_of u w.tags ≡ count_of u v.tags) → TagsAreHeldOnce depth (after n w)
  kept n w here bits counts = record {
    four = length-set s.words (t / 64) n ∙ h.four;
    counted = λ u. elim (cases_Bool (u == t)) [
      | inl y ↦
          let e = eqb-true u t y in
          subst (λ (k : ℕ). bit_of (slice_set s.words (t / 64) n) k ≡ total_of k (slice_set s.views id w)) (sym e)
          (omega (arith, bit_here s.words h.four t n (omega arith) t refl, here, h.counted t, total_set t s.views id v w at))
      | inr f ↦
          let d : u ≢ t = λ q. cc (sym (eq-eqb u t q) ∙ f) in
          omega (arith, bits u d, counts u d, h.counted u, total_set u s.views id v w at)
    ];
    below = λ u a. bits u (λ q. omega (arith, q)) ∙ h.below u a;
  }

  others : (n : ℕ) → ((k : ℕ) → k < 64 → k ≢ t % 64 → bit_at n k ≡ bit_at word k) → (u : ℕ) → u ≢ t → bit_of (slice_set s.words (t / 64) n) u ≡ bit_of s.words u
  others n = bit_other s.words h.four t n (omega arith)

  pub free : bit_at word (t % 64) ≡ 0 → count_of t v.tags ≡ 0
  free clear = omega (arith, clear, h.counted t, count_most t s.views id v at)

  pub wins : bit_at word (t % 64) ≡ 0 → TagsAreHeldOnce depth (after (bit_or word (2 ^ (t % 64))) (stepped_for t v (v.tags ++ t ∷ [])))
  wins clear = kept (bit_or word (2 ^ (t % 64))) (stepped_for t v (v.tags ++ t ∷ [])) (omega (arith, set_same word (t % 64) (low t), clear, count_push_same t v.tags)) (others _ (λ k a d. set_other word (t % 64) k (low t) d)) (λ u d. count_push_other u t v.tags d)

  pub loses : bit_at word (t % 64) ≡ 1 → TagsAreHeldOnce depth (after (bit_or word (2 ^ (t % 64))) (stepped_for t v v.tags))
  loses full = kept (bit_or word (2 ^ (t % 64))) (stepped_for t v v.tags) (omega (arith, set_same word (t % 64) (low t), full)) (others _ (λ k a d. set_other word (t % 64) k (low t) d)) (λ u d. refl)

  pub gives : 0 < count_of t v.tags → TagsAreHeldOnce depth (after (bit_and word (2 ^ 64 - 1 - 2 ^ (t % 64))) (stepped_for t v (without t v.tags)))
  gives has =
      let held : bit_of s.words t ≡ count_of t v.tags = elim (bit_cases word (t % 64)) [
        | inl z ↦ absurd (omega (arith, z, has, h.counted t, count_most t s.views id v at))
        | inr o ↦ omega (arith, o, has, h.counted t, count_most t s.views id v at)
      ] in
      kept (bit_and word (2 ^ 64 - 1 - 2 ^ (t % 64))) (stepped_for t v (without t v.tags)) (omega (arith, clear_same word (t % 64) (low t), none_left t v.tags, held)) (others _ (λ k a d. clear_other word (t % 64) k (low t) a d)) (λ u d. others_left u t v.tags d)

-- a take keeps the rule, whatever it finds
pub allows_take : {S : Type 0} (depth id t slots : ℕ) (me : Me S Held) → t < depth → depth ≤ 256
    → Allows (TagsAreHeldOnce depth) slots id me (t / 64) (λ n. bit_or n (2 ^ (t % 64))) (took (step slots (t / 64) (2 ^ (t % 64)) 0 none) me)
allows_take depth id t slots me below few s h sl at small = elim (bit_cases (slice_index s.words (t / 64)) (t % 64)) [
  | inl clear ↦ (
    stepped_for t me.0 (me.0.tags ++ t ∷ []),
    keeps,
    tt,
    wins depth s id t me.0 below few h at clear,
    (
      refl,
      λ u a p e.
          let q : t ≡ u = same_place t u p (same_power (t % 64) (u % 64) (low t) (low u) e) in
          subst (λ (k : ℕ). (bit_at (slice_index s.words (t / 64)) (k % 64) ≡ 0 → (count_of k me.0.tags ≡ 0) × (stepped_for t me.0 (me.0.tags ++ t ∷ []) ≡ stepped_for k me.0 (me.0.tags ++ k ∷ []))) × (bit_at (slice_index s.words (t / 64)) (k % 64) ≡ 1 → stepped_for t me.0 (me.0.tags ++ t ∷ []) ≡ stepped_for k me.0 me.0.tags)) q
          ((λ z. (free depth s id t me.0 below few h at clear, refl)), (λ o. absurd (omega (arith, o, clear)))),
    ),
  )
  | inr full ↦ (
    stepped_for t me.0 me.0.tags,
    keeps,
    tt,
    loses depth s id t me.0 below few h at full,
    (
      refl,
      λ u a p e.
          let q : t ≡ u = same_place t u p (same_power (t % 64) (u % 64) (low t) (low u) e) in
          subst (λ (k : ℕ). (bit_at (slice_index s.words (t / 64)) (k % 64) ≡ 0 → (count_of k me.0.tags ≡ 0) × (stepped_for t me.0 me.0.tags ≡ stepped_for k me.0 (me.0.tags ++ k ∷ []))) × (bit_at (slice_index s.words (t / 64)) (k % 64) ≡ 1 → stepped_for t me.0 me.0.tags ≡ stepped_for k me.0 me.0.tags)) q
          ((λ z. absurd (omega (arith, z, full))), (λ o. refl)),
    ),
  )
]

-- a give keeps the rule
pub allows_give : {S : Type 0} (depth id t slots : ℕ) (me : Me S Held) → t < depth → depth ≤ 256 → 0 < count_of t me.0.tags
    → Allows (TagsAreHeldOnce depth) slots id me (t / 64) (λ n. bit_and n (2 ^ 64 - 1 - 2 ^ (t % 64))) (gave (step slots (t / 64) (2 ^ 64 - 1 - 2 ^ (t % 64)) 0 none) me)
allows_give depth id t slots me below few has s h sl at small = (
  stepped_for t me.0 (without t me.0.tags),
  keeps,
  tt,
  gives depth s id t me.0 below few h at has,
  (refl, λ u a p e. ap (λ k. stepped_for k me.0 (without k me.0.tags)) (same_place t u p (same_mask (t % 64) (u % 64) (low t) (low u) e))),
)

-- a new seat holds none
pub splits : {S : Type 0} (depth : ℕ) (s : State S Held) (id : ℕ) (v : Held) → TagsAreHeldOnce depth s → get_elem? s.views id ≡ some v
    → TagsAreHeldOnce depth record { words = s.words; homes = s.homes; views = slice_set s.views id v ++ no_tags ∷ [] }
splits depth s id v h at = record {
  four = h.four;
  counted = λ t. omega (arith, h.counted t, total_set t s.views id v v at, total_push t (slice_set s.views id v));
  below = h.below;
}

-- a seat that holds none may be joined into another
pub joins : {S : Type 0} (depth : ℕ) (s : State S Held) (id other : ℕ) (v w : Held) → TagsAreHeldOnce depth s → get_elem? s.views id ≡ some v → w.tags ≡ [] → get_elem? (slice_set s.views id v) other ≡ some w
    → TagsAreHeldOnce depth record { words = s.words; homes = s.homes; views = slice_set (slice_set s.views id v) other no_tags }
joins depth s id other v w h at empty there = record {
  four = h.four;
  counted = λ t. omega (arith, h.counted t, total_set t s.views id v v at, total_set t (slice_set s.views id v) other w no_tags there, ap (count_of t) empty);
  below = h.below;
}

-- the same in the code's own words
pub may_take : {S : Type 0} (depth key id t word bit slots : ℕ) (me : Me S Held) → t < depth → depth ≤ 256 → key ≡ depth → word ≡ t / 64 → bit ≡ 2 ^ (t % 64)
    → Allows (TagsAreHeldOnce key) slots id me word (λ n. bit_or n bit) (took (step slots word bit 0 none) me)
may_take depth key id t word bit slots me below few k w b = rw (k, w, b) (allows_take depth id t slots me below few)

pub may_give : {S : Type 0} (depth key id t word bit slots : ℕ) (me : Me S Held) → t < depth → depth ≤ 256 → 0 < count_of t me.0.tags → key ≡ depth → word ≡ t / 64 → bit ≡ 2 ^ (t % 64)
    → Allows (TagsAreHeldOnce key) slots id me word (λ n. bit_and n (2 ^ 64 - 1 - bit)) (gave (step slots word (2 ^ 64 - 1 - bit) 0 none) me)
may_give depth key id t word bit slots me below few has k w b = rw (k, w, b) (allows_give depth id t slots me below few has)

none_at : (i : ℕ) → slice_index (0 ∷ 0 ∷ 0 ∷ 0 ∷ []) i ≡ 0
none_at zero = refl
none_at (suc zero) = refl
none_at (suc (suc zero)) = refl
none_at (suc (suc (suc zero))) = refl
none_at (suc (suc (suc (suc i)))) = refl

none_set : (t : ℕ) → bit_of (0 ∷ 0 ∷ 0 ∷ 0 ∷ []) t ≡ 0
none_set t = ap (λ w. bit_at w (t % 64)) (none_at (t / 64)) ∙ bit_at-zero (t % 64)

-- a set begins with none of its tags taken
pub opens : {S : Type 0} (depth : ℕ) (slots : List S) → TagsAreHeldOnce depth (opening (0 ∷ 0 ∷ 0 ∷ 0 ∷ []) slots no_tags)
opens depth slots = record {
  four = refl;
  counted = λ t. none_set t;
  below = λ t a. none_set t;
}
