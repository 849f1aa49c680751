-- What is left of a seat that took a tag or gave one back.
use Rattle.std.proofs.Common.{◌≡◌, ◌≢◌, ◌+◌, ◌<◌, ◌≤◌, ◌==◌, ◌∙◌, ℕ, zero, suc, List, [], ◌∷◌, ◌++◌, length, Bool, true, false, Some, refl, sym, ap, subst, inl, inr, arith, length-set}
use Rattle.std.specs.Prelude.{slice_set, slice_index_or, Option, IfSome, IsTrue, Contains, ◌↔◌}
use Rattle.std.proofs.lemmas.Bool.{cases_Bool, eqb-true, eq-eqb, ltb-true, ltb-false}
use lib.Dec.{ltb}
use Rattle.std.proofs.lemmas.List.{get_or-set_same, get_or-set_other}
use Rattle.atomic_table.specs.Seated.{TableId}
use Rattle.blk_tags.specs.Tags.{Held, Seat, IsSet, stepped_for, IsSeat, tag_seat_of, count_of, without, one_if}
use Rattle.blk_tags.specs.Inside.{Marks}
use Rattle.blk_tags.proofs.Counts.{count_push_same, count_push_other, none_left, others_left, held_some, some_held, none_empty, none_count}

one_if-le : (b : Bool) → one_if b ≤ 1
one_if-le true = omega arith
one_if-le false = omega arith

past : (marks : List Bool) (t : ℕ) → length marks ≤ t → slice_index_or marks t false ≡ false
past [] t a = refl
past (x ∷ xs) zero a = absurd (omega (arith, a))
past (x ∷ xs) (suc t) a = past xs t (omega (arith, a))

-- marks make a seat
pub seated : (name : TableId) (marks : List Bool) (held : Held) (last : Option ℕ) → IsSet record { name = name; depth = length marks } → Marks marks held.tags → IfSome last (λ t. t < length marks) → IsSeat (tag_seat_of name marks held last)
seated name marks held last is marked below = record {
  is_set = is;
  once = λ t. omega (arith, marked t, one_if-le (slice_index_or marks t false));
  below = λ t a. marked t ∙ ap one_if (past marks t a);
  last = below;
}

pub marked_take : (marks : List Bool) (v w : List ℕ) (t : ℕ) → Marks marks v → t < length marks → count_of t v ≡ 0 → w ≡ v ++ t ∷ [] → Marks (slice_set marks t true) w
marked_take marks v w t m a none e u = rw e (elim (cases_Bool (u == t)) [
  | inl y ↦ let q = eqb-true u t y in
      subst (λ (k : ℕ). count_of k (v ++ t ∷ []) ≡ one_if (slice_index_or (slice_set marks t true) k false)) (sym q) (count_push_same t v ∙ ap (λ n. 1 + n) none ∙ sym (ap one_if (get_or-set_same marks t true false a)))
  | inr n ↦ let d : u ≢ t = λ q. cc (sym (eq-eqb u t q) ∙ n) in
      count_push_other u t v d ∙ m u ∙ sym (ap one_if (get_or-set_other marks t u true false d))
])

pub marked_give : (marks : List Bool) (v w : List ℕ) (t : ℕ) → Marks marks v → t < length marks → w ≡ without t v → Marks (slice_set marks t false) w
marked_give marks v w t m a e u = rw e (elim (cases_Bool (u == t)) [
  | inl y ↦ let q = eqb-true u t y in
      subst (λ (k : ℕ). count_of k (without t v) ≡ one_if (slice_index_or (slice_set marks t false) k false)) (sym q) (none_left t v ∙ sym (ap one_if (get_or-set_same marks t false false a)))
  | inr n ↦ let d : u ≢ t = λ q. cc (sym (eq-eqb u t q) ∙ n) in
      others_left u t v d ∙ m u ∙ sym (ap one_if (get_or-set_other marks t u false false d))
])

-- a seat that took the tag t
pub took_one : (name : TableId) (marks : List Bool) (v w : Held) (last : Option ℕ) (at t : ℕ) → IsSeat (tag_seat_of name marks v last) → Marks marks v.tags → at ≡ t → t < length marks → count_of t v.tags ≡ 0 → w ≡ stepped_for t v (v.tags ++ t ∷ [])
    → IsSeat (tag_seat_of name (slice_set marks at true) w (Some t)) × Marks (slice_set marks at true) w.tags
took_one name marks v w last at t is m p a none e =
    let same : length (slice_set marks at true) ≡ length marks = length-set marks at true in
    let m' : Marks (slice_set marks at true) w.tags = rw p (marked_take marks v.tags w.tags t m a none (ap (λ h. h.tags) e)) in
    (seated name (slice_set marks at true) w (Some t) record { some = omega (arith, same, is.is_set.some); few = omega (arith, same, is.is_set.few) } m' (omega (arith, same, a)), m')

-- a seat that gave the tag t back
pub gave_one : (name : TableId) (marks : List Bool) (v w : Held) (last : Option ℕ) (at t : ℕ) → IsSeat (tag_seat_of name marks v last) → Marks marks v.tags → at ≡ t → t < length marks → w ≡ stepped_for t v (without t v.tags)
    → IsSeat (tag_seat_of name (slice_set marks at false) w last) × Marks (slice_set marks at false) w.tags
gave_one name marks v w last at t is m p a e =
    let same : length (slice_set marks at false) ≡ length marks = length-set marks at false in
    let m' : Marks (slice_set marks at false) w.tags = rw p (marked_give marks v.tags w.tags t m a (ap (λ h. h.tags) e)) in
    (seated name (slice_set marks at false) w last record { some = omega (arith, same, is.is_set.some); few = omega (arith, same, is.is_set.few) } m' (rw same is.last), m')

-- a tag that is held is one of the set's
pub held_below : (seat : Seat) (t : ℕ) → IsSeat seat → Contains seat.tags t → t < seat.of_set.depth
held_below seat t is has = elim (cases_Bool (ltb t seat.of_set.depth)) [
  | inl y ↦ ltb-true t seat.of_set.depth y
  | inr n ↦ absurd (omega (arith, is.below t (ltb-false t seat.of_set.depth n), held_some t seat.tags has))
]

-- what a mark says of its tag
pub mark_tells : (marks : List Bool) (v : List ℕ) (b : Bool) (t : ℕ) → Marks marks v → slice_index_or marks t false ≡ b → IsTrue b ↔ Contains v t
mark_tells marks v b t m e = (
  (λ yes. some_held t v (omega (arith, m t, ap one_if (e ∙ yes)))),
  (λ has. elim (cases_Bool b) [
    | inl y ↦ y
    | inr n ↦ absurd (omega (arith, m t, ap one_if (e ∙ n), held_some t v has))
  ]),
)

pub no_mark : (marks : List Bool) (v : List ℕ) (t : ℕ) → Marks marks v → length marks ≤ t → ¬ Contains v t
no_mark marks v t m a has = omega (arith, m t, ap one_if (past marks t a), held_some t v has)

pub read_mark : (marks : List Bool) (t : ℕ) (b : Bool) → t < length marks → b ≡ slice_index_or marks t b → slice_index_or marks t false ≡ b
read_mark [] t b a e = absurd (omega (arith, a))
read_mark (x ∷ xs) zero b a e = sym e
read_mark (x ∷ xs) (suc t) b a e = read_mark xs t b (omega (arith, a)) e

-- what a seat that gave a tag back holds, it held, and it is another tag
pub gave_other : (t u : ℕ) (v : List ℕ) → Contains (without t v) u → (u ≢ t) × Contains v u
gave_other t u v has =
    let d : u ≢ t = λ q. omega (arith, held_some u (without t v) has, ap (λ k. count_of k (without t v)) q, none_left t v) in
    (d, some_held u v (omega (arith, held_some u (without t v) has, others_left u t v d)))

-- a seat that holds none of its set's tags holds none
pub holds_none : (seat : Seat) → IsSeat seat → ((t : ℕ) → t < seat.of_set.depth → ¬ Contains seat.tags t) → seat.tags ≡ []
holds_none seat is nowhere = none_empty seat.tags (λ t. elim (cases_Bool (ltb t seat.of_set.depth)) [
  | inl y ↦ none_count seat.tags t (nowhere t (ltb-true t seat.of_set.depth y))
  | inr n ↦ is.below t (ltb-false t seat.of_set.depth n)
])
