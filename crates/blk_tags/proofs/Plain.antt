-- The tag rule in plain words.
use Rattle.std.proofs.Common.{◌≡◌, ◌+◌, ◌*◌, ◌/◌, ◌%◌, ◌<◌, ◌≤◌, ◌∙◌, ℕ, zero, suc, List, [], ◌∷◌, refl, sym, ap, inl, inr, arith}
use Rattle.std.specs.Prelude.{slice_index}
use Rattle.std.specs.Int.{bit_at}
use Rattle.std.proofs.lemmas.Bool.{cases_Bool, ltb-true, ltb-false}
use lib.Dec.{ltb}
use mathlib.Core.Option.{some, some-injective, some-ne-none}
use lib.ListN.{get_elem?}
use Rattle.atomic_table.specs.Table.{State}
use Rattle.std.proofs.lemmas.Nat.{div-add-mod'}
use Rattle.blk_tags.specs.Tags.{Held, no_tags, count_of}
use Rattle.blk_tags.specs.Steps.{TagsAreHeldOnce, bit_of, total_of, IsHeldBy, with_new_seat, with_seat}
use Rattle.blk_tags.proofs.Counts.{held_some, some_held, total_push, total_set, count_most}
use Rattle.blk_tags.proofs.Bits.{bit_cases, low}

-- a tag that all seats together hold once or more is some seat's
pub some_seat : (t : ℕ) (vs : List Held) → 0 < total_of t vs → (id : ℕ) × IsHeldBy vs id t
some_seat t [] h = absurd (omega (arith, h))
some_seat t (v ∷ vs) h = elim (cases_Bool (ltb 0 (count_of t v.tags))) [
  | inl y ↦ (0, (v, refl, some_held t v.tags (ltb-true 0 (count_of t v.tags) y)))
  | inr n ↦ let r = some_seat t vs (omega (arith, h, ltb-false 0 (count_of t v.tags) n)) in (suc r.0, r.1)
]

-- and that it is held
pub held_total : (t : ℕ) (vs : List Held) (id : ℕ) → IsHeldBy vs id t → 0 < total_of t vs
held_total t vs id h = omega (arith, count_most t vs id h.0 h.1, held_some t h.0.tags h.2)

-- a tag that is held once is one seat's
pub one_seat : (t : ℕ) (vs : List Held) (i j : ℕ) → total_of t vs ≤ 1 → IsHeldBy vs i t → IsHeldBy vs j t → i ≡ j
one_seat t [] i j h a b = absurd (some-ne-none a.0 (sym a.1))
one_seat t (v ∷ vs) zero zero h a b = refl
one_seat t (v ∷ vs) zero (suc j) h a b =
    let q = some-injective v a.0 a.1 in
    let one : 0 < count_of t v.tags = held_some t v.tags (rw q a.2) in
    absurd (omega (arith, h, one, held_total t vs j b))
one_seat t (v ∷ vs) (suc i) zero h a b =
    let q = some-injective v b.0 b.1 in
    let one : 0 < count_of t v.tags = held_some t v.tags (rw q b.2) in
    absurd (omega (arith, h, one, held_total t vs i a))
one_seat t (v ∷ vs) (suc i) (suc j) h a b = ap suc (one_seat t vs i j (omega (arith, h)) a b)

module _ {S : Type 0} (depth : ℕ) (s : State S Held) (h : TagsAreHeldOnce depth s) where
  pub few_total : (t : ℕ) → total_of t s.views ≤ 1
  few_total t = elim (bit_cases (slice_index s.words (t / 64)) (t % 64)) [
    | inl z ↦ omega (arith, z, h.counted t)
    | inr o ↦ omega (arith, o, h.counted t)
  ]

  pub bit_below : (t : ℕ) → bit_of s.words t ≡ 1 → t < depth
  bit_below t e = elim (cases_Bool (ltb t depth)) [
    | inl y ↦ ltb-true t depth y
    | inr n ↦ absurd (omega (arith, e, h.below t (ltb-false t depth n)))
  ]

  pub bit_held : (t : ℕ) → bit_of s.words t ≡ 1 → (id : ℕ) × IsHeldBy s.views id t
  bit_held t e = some_seat t s.views (omega (arith, e, h.counted t))

  pub held_bit : (t id : ℕ) → IsHeldBy s.views id t → bit_of s.words t ≡ 1
  held_bit t id b = omega (arith, h.counted t, held_total t s.views id b, few_total t)

  pub new_seat : TagsAreHeldOnce depth (with_new_seat s)
  new_seat = record { four = h.four; counted = λ t. omega (arith, h.counted t, total_push t s.views); below = h.below }

  pub empty_seat : (other : ℕ) (w : Held) → get_elem? s.views other ≡ some w → w.tags ≡ [] → TagsAreHeldOnce depth (with_seat s other no_tags)
  empty_seat other w at empty = record { four = h.four; counted = λ t. omega (arith, h.counted t, total_set t s.views other w no_tags at, ap (count_of t) empty); below = h.below }

-- of the bit k of a word
pub word_is : (w k : ℕ) → k < 64 → (w * 64 + k) / 64 ≡ w
word_is w k a = omega (arith, div-add-mod' (w * 64 + k) 64, low (w * 64 + k), a)

pub bit_is : (w k : ℕ) → k < 64 → (w * 64 + k) % 64 ≡ k
bit_is w k a = omega (arith, div-add-mod' (w * 64 + k) 64, low (w * 64 + k), a, word_is w k a)

pub bit_of_word : (words : List ℕ) (w k : ℕ) → k < 64 → bit_of words (w * 64 + k) ≡ bit_at (slice_index words w) k
bit_of_word words w k a = ap (λ i. bit_at (slice_index words i) ((w * 64 + k) % 64)) (word_is w k a) ∙ ap (λ i. bit_at (slice_index words w) i) (bit_is w k a)
