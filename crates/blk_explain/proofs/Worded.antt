-- The kind of a table that a record's first word names.
use Rattle.std.proofs.Common.{◌≡◌, ◌⊎◌, ◌<◌, ◌+◌, ◌++◌, ◌∷◌, ◌∙◌, ℕ, zero, suc, List, [], length, take, get_or, refl, sym, subst, inl, inr, arith, add-one}
use Rattle.blk_records.specs.Kinds.{KindRow, HasRow}
use Rattle.blk_explain.specs.Forms.{IsWorded}

-- no row has this word
abbrev pub Lacks : List ℕ → List KindRow → Type 0
Lacks word kinds = (k : KindRow) → HasRow kinds k → ¬ (word ≡ k.word)

-- the row at a place is one of them
at_place : (kinds : List KindRow) (i : ℕ) (d : KindRow) → i < length kinds → HasRow kinds (get_or kinds i d)
at_place [] i d lt = absurd (omega (arith, lt))
at_place (r ∷ rows) zero d lt = inl refl
at_place (r ∷ rows) (suc i) d lt = inr (at_place rows i d (omega (arith, lt)))

pub has_at : (kinds : List KindRow) (i : ℕ) (k : KindRow) → i < length kinds → k ≡ get_or kinds i k → HasRow kinds k
has_at kinds i k lt is = subst (HasRow kinds) (sym is) (at_place kinds i k lt)

-- no row of one more has it where the next has another word
not_yet : (word : List ℕ) (kinds : List KindRow) (i : ℕ) (d : KindRow) → i < length kinds → Lacks word (take i kinds) → ¬ (word ≡ (get_or kinds i d).word) → Lacks word (take (suc i) kinds)
not_yet word [] i d lt none is k h = absurd (omega (arith, lt))
not_yet word (r ∷ rows) zero d lt none is k (inl e) = subst (λ (z : KindRow). ¬ (word ≡ z.word)) (sym e) is
not_yet word (r ∷ rows) zero d lt none is k (inr h) = absurd h
not_yet word (r ∷ rows) (suc i) d lt none is k (inl e) = none k (inl e)
not_yet word (r ∷ rows) (suc i) d lt none is k (inr h) = not_yet word rows i d (omega (arith, lt)) (λ j g. none j (inr g)) is k h

pub lacks_more : (word : List ℕ) (kinds : List KindRow) (i : ℕ) (k : KindRow) → i < length kinds → k ≡ get_or kinds i k → Lacks word (take i kinds) → ¬ (word ≡ k.word) → Lacks word (take (i + 1) kinds)
lacks_more word kinds i k lt is none other = rw (add-one i) (not_yet word kinds i k lt none (subst (λ (z : KindRow). ¬ (word ≡ z.word)) is other))

-- a row of either of two tables
in_first : (xs ys : List KindRow) (k : KindRow) → HasRow xs k → HasRow (xs ++ ys) k
in_first [] ys k h = absurd h
in_first (x ∷ xs) ys k (inl e) = inl e
in_first (x ∷ xs) ys k (inr h) = inr (in_first xs ys k h)

in_second : (xs ys : List KindRow) (k : KindRow) → HasRow ys k → HasRow (xs ++ ys) k
in_second [] ys k h = h
in_second (x ∷ xs) ys k h = inr (in_second xs ys k h)

in_either : (xs ys : List KindRow) (k : KindRow) → HasRow (xs ++ ys) k → HasRow xs k ⊎ HasRow ys k
in_either [] ys k h = inr h
in_either (x ∷ xs) ys k (inl e) = inl (inl e)
in_either (x ∷ xs) ys k (inr h) = elim (in_either xs ys k h) [
  | inl a ↦ inl (inr a)
  | inr b ↦ inr b
]

-- what is looked for in one table, and then in another, is looked for in both
pub worded_either : (xs ys : List KindRow) (other mid found : KindRow) (word : List ℕ) → IsWorded ys other word mid → IsWorded xs mid word found → IsWorded (xs ++ ys) other word found
worded_either xs ys other mid found word second (inl h) = inl (in_first xs ys found h.0, h.1)
worded_either xs ys other mid found word (inl h) (inr n) = subst (IsWorded (xs ++ ys) other word) (sym n.1) (inl (in_second xs ys mid h.0, h.1))
worded_either xs ys other mid found word (inr m) (inr n) = inr (
  (λ k h. elim (in_either xs ys k h) [
    | inl a ↦ n.0 k a
    | inr b ↦ m.0 k b
  ]),
  n.1 ∙ m.1,
)
