-- How often a tag stands in a list, and in all lists together.
use Rattle.std.proofs.Common.{◌≡◌, ◌≢◌, ◌+◌, ◌<◌, ◌≤◌, ◌==◌, ◌∙◌, ℕ, zero, suc, List, [], ◌∷◌, ◌++◌, length, refl, sym, ap, inl, inr, arith}
use Rattle.std.specs.Prelude.{slice_set, Contains}
use Rattle.std.proofs.lemmas.Bool.{cases_Bool, ne_eqb, eqb-true, eq-eqb, ltb-true, ltb-false}
use lib.Dec.{ltb}
use mathlib.Core.Option.{some, some-injective, some-ne-none}
use lib.ListN.{get_elem?}
use Rattle.blk_tags.specs.Tags.{Held, no_tags, count_of, without, one_if}
use Rattle.blk_tags.specs.Steps.{total_of}

-- a tag that is put at the end stands once more
pub count_push : (u t : ℕ) (v : List ℕ) → count_of u (v ++ t ∷ []) ≡ count_of u v + one_if (t == u)
count_push u t [] = omega arith
count_push u t (x ∷ xs) = omega (arith, count_push u t xs)

pub count_push_same : (t : ℕ) (v : List ℕ) → count_of t (v ++ t ∷ []) ≡ 1 + count_of t v
count_push_same t v = let e : one_if (t == t) ≡ 1 = rw (eq-eqb t t refl) refl in omega (arith, count_push t t v, e)

pub count_push_other : (u t : ℕ) (v : List ℕ) → u ≢ t → count_of u (v ++ t ∷ []) ≡ count_of u v
count_push_other u t v d = let e : one_if (t == u) ≡ 0 = rw (ne_eqb t u (λ q. d (sym q))) refl in omega (arith, count_push u t v, e)

pub none_left : (t : ℕ) (v : List ℕ) → count_of t (without t v) ≡ 0
none_left t [] = refl
none_left t (x ∷ xs) = elim (cases_Bool (x == t)) [
  | inl y ↦ rw y (none_left t xs)
  | inr n ↦ rw (n, n) (omega (arith, none_left t xs))
]

pub others_left : (u t : ℕ) (v : List ℕ) → u ≢ t → count_of u (without t v) ≡ count_of u v
others_left u t [] d = refl
others_left u t (x ∷ xs) d = elim (cases_Bool (x == t)) [
  | inl y ↦ let e = eqb-true x t y in rw (y, ne_eqb x u (λ q. d (sym q ∙ e))) (omega (arith, others_left u t xs d))
  | inr n ↦ rw n (ap (λ k. one_if (x == u) + k) (others_left u t xs d))
]

-- a tag that stands in the list is counted
pub held_some : (t : ℕ) (v : List ℕ) → Contains v t → 0 < count_of t v
held_some t [] h = absurd (omega (arith, h.1))
held_some t (x ∷ xs) (zero, h, e) = rw (eq-eqb x t e) (omega arith)
held_some t (x ∷ xs) (suc k, h, e) = omega (arith, held_some t xs (k, omega arith, e))

later : (t x : ℕ) (xs : List ℕ) → Contains xs t → Contains (x ∷ xs) t
later t x xs (k, h, e) = (suc k, omega (arith, h), e)

-- a tag that is counted stands in the list
pub some_held : (t : ℕ) (v : List ℕ) → 0 < count_of t v → Contains v t
some_held t [] h = absurd (omega (arith, h))
some_held t (x ∷ xs) h = elim (cases_Bool (x == t)) [
  | inl y ↦ (0, omega arith, eqb-true x t y)
  | inr n ↦
      let e : one_if (x == t) ≡ 0 = rw n refl in
      later t x xs (some_held t xs (omega (arith, h, e)))
]

-- a list in which no tag is counted is empty
pub none_empty : (v : List ℕ) → ((t : ℕ) → count_of t v ≡ 0) → v ≡ []
none_empty [] h = refl
none_empty (x ∷ xs) h = let e : one_if (x == x) ≡ 1 = rw (eq-eqb x x refl) refl in absurd (omega (arith, h x, e))

-- a seat that changes changes the total by as much
pub total_set : (t : ℕ) (vs : List Held) (i : ℕ) (v w : Held) → get_elem? vs i ≡ some v → total_of t (slice_set vs i w) + count_of t v.tags ≡ total_of t vs + count_of t w.tags
total_set t [] i v w e = absurd (some-ne-none v (sym e))
total_set t (x ∷ xs) zero v w e = let q = some-injective x v e in rw q (omega arith)
total_set t (x ∷ xs) (suc i) v w e = omega (arith, total_set t xs i v w e)

pub total_push : (t : ℕ) (vs : List Held) → total_of t (vs ++ no_tags ∷ []) ≡ total_of t vs
total_push t [] = refl
total_push t (v ∷ vs) = ap (λ n. count_of t v.tags + n) (total_push t vs)

pub count_most : (t : ℕ) (vs : List Held) (i : ℕ) (v : Held) → get_elem? vs i ≡ some v → count_of t v.tags ≤ total_of t vs
count_most t [] i v e = absurd (some-ne-none v (sym e))
count_most t (x ∷ xs) zero v e = let q = some-injective x v e in rw (← q) (omega arith)
count_most t (x ∷ xs) (suc i) v e = omega (arith, count_most t xs i v e)

-- a tag that doesn't stand in the list isn't counted
pub none_count : (v : List ℕ) (t : ℕ) → ¬ Contains v t → count_of t v ≡ 0
none_count v t nowhere = elim (cases_Bool (ltb 0 (count_of t v))) [
  | inl y ↦ absurd (nowhere (some_held t v (ltb-true 0 (count_of t v) y)))
  | inr n ↦ omega (arith, ltb-false 0 (count_of t v) n)
]

-- a tag that is put at the end is held
pub pushed_held : (t : ℕ) (v w : List ℕ) → w ≡ v ++ t ∷ [] → Contains w t
pushed_held t v w e = rw e (some_held t (v ++ t ∷ []) (omega (arith, count_push_same t v)))

-- a list that holds a tag once is one longer than the others
pub all_left : (t : ℕ) (v : List ℕ) → count_of t v ≡ 0 → length (without t v) ≡ length v
all_left t [] h = refl
all_left t (x ∷ xs) h = elim (cases_Bool (x == t)) [
  | inl y ↦ let e : one_if (x == t) ≡ 1 = rw y refl in absurd (omega (arith, h, e))
  | inr n ↦ rw n (ap suc (all_left t xs (omega (arith, h))))
]

pub one_left : (t : ℕ) (v : List ℕ) → count_of t v ≡ 1 → length (without t v) + 1 ≡ length v
one_left t [] h = absurd (omega (arith, h))
one_left t (x ∷ xs) h = elim (cases_Bool (x == t)) [
  | inl y ↦ let e : one_if (x == t) ≡ 1 = rw y refl in rw y (omega (arith, all_left t xs (omega (arith, h, e))))
  | inr n ↦ let e : one_if (x == t) ≡ 0 = rw n refl in rw n (omega (arith, one_left t xs (omega (arith, h, e))))
]
