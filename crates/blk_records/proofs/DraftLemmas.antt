-- More records of a text.
use Rattle.std.proofs.Common.{◌≡◌, ◌+◌, ◌<◌, ◌≤◌, ◌∙◌, ℕ, List, [], ◌∷◌, ◌++◌, length, map, take, refl, sym, ap, append_assoc, append-nil, add-one, get_or}
use Rattle.std.specs.List.{flat_map}
use Rattle.std.proofs.Math.Seq.{take-suc}
use Rattle.std.proofs.lemmas.List.{flat_map_more, take_all}
use Rattle.std.proofs.lemmas.List.Concat.{flat_map_single}
use Rattle.csv.specs.Writing.{row_text, default_writer}
use Rattle.blk_records.specs.Sources.{Row}
use Rattle.blk_records.specs.Texts.{rows_text}

pub rows_text-append : (rows more : List Row) → rows_text (rows ++ more) ≡ rows_text rows ++ rows_text more
unfolding rows_text
rows_text-append [] more = refl
rows_text-append (r ∷ rows) more = ap (λ t. row_text default_writer r ++ t) (rows_text-append rows more) ∙ sym (append_assoc (row_text default_writer r) (rows_text rows) (rows_text more))

-- the records of the first i of a list, after some others
abbrev pub IsSoFar : {X : Type 0} → (X → List Row) → List ℕ → List Row → List X → ℕ → List ℕ → Type 0
IsSoFar rows_of before head xs i has = has ≡ before ++ rows_text (head ++ flat_map rows_of (take i xs))

-- the records of one more
more : {X : Type 0} (rows_of : X → List Row) (before : List ℕ) (head : List Row) (xs : List X) (i : ℕ) (x : X) (had has : List ℕ)
    → take (i + 1) xs ≡ take i xs ++ x ∷ [] → IsSoFar rows_of before head xs i had → has ≡ had ++ rows_text (rows_of x) → IsSoFar rows_of before head xs (i + 1) has
more rows_of before head xs i x had has t a b =
    let joined : rows_text (head ++ flat_map rows_of (take i xs)) ++ rows_text (rows_of x) ≡ rows_text (head ++ flat_map rows_of (take i xs ++ x ∷ [])) =
    sym (rows_text-append (head ++ flat_map rows_of (take i xs)) (rows_of x))
    ∙ ap rows_text (flat_map_more rows_of head (take i xs) x) in
    rw t (b ∙ ap (λ (k : List ℕ). k ++ rows_text (rows_of x)) a ∙ append_assoc before _ _ ∙ ap (λ (k : List ℕ). before ++ k) joined)

-- the same of an element that was looked up
pub one_more : {X : Type 0} (rows_of : X → List Row) (before : List ℕ) (head : List Row) (xs : List X) (i : ℕ) (x : X) (had has : List ℕ)
    → i < length xs → x ≡ get_or xs i x → IsSoFar rows_of before head xs i had → has ≡ had ++ rows_text (rows_of x) → IsSoFar rows_of before head xs (i + 1) has
one_more {X} rows_of before head xs i x had has l e a b =
    more rows_of before head xs i x had has (rw (add-one i) (take-suc xs i x l ∙ ap (λ (y : X). take i xs ++ y ∷ []) (sym e))) a b

-- the same with an element for want of one
pub one_more_at : {X : Type 0} (rows_of : X → List Row) (before : List ℕ) (head : List Row) (xs : List X) (i : ℕ) (d : X) (had has : List ℕ)
    → i < length xs → IsSoFar rows_of before head xs i had → has ≡ had ++ rows_text (rows_of (get_or xs i d)) → IsSoFar rows_of before head xs (i + 1) has
one_more_at rows_of before head xs i d had has l a b = more rows_of before head xs i (get_or xs i d) had has (rw (add-one i) (take-suc xs i d l)) a b

-- a record and others to begin with
pub two_first : (a : Row) (bs : List Row) (none one two : List ℕ) → none ≡ [] → one ≡ none ++ rows_text (a ∷ []) → two ≡ one ++ rows_text bs → two ≡ rows_text (a ∷ bs)
two_first a bs none one two e p q =
    q ∙ ap (λ (k : List ℕ). k ++ rows_text bs) (p ∙ ap (λ (k : List ℕ). k ++ rows_text (a ∷ [])) e) ∙ sym (rows_text-append (a ∷ []) bs)

-- none to begin with
pub none_first : (has : List ℕ) → has ≡ has ++ rows_text []
unfolding rows_text
none_first has = sym (append-nil has)

-- a record to begin with
pub one_first : (a : Row) (none one : List ℕ) → none ≡ [] → one ≡ none ++ rows_text (a ∷ []) → one ≡ rows_text (a ∷ [])
one_first a none one e p = p ∙ ap (λ (k : List ℕ). k ++ rows_text (a ∷ [])) e

-- the records of all of a list
pub whole : {X : Type 0} (row_of : X → Row) (before : List ℕ) (head : List Row) (xs : List X) (i : ℕ) (has : List ℕ) → length xs ≤ i
    → IsSoFar (λ x. row_of x ∷ []) before head xs i has → has ≡ before ++ rows_text (head ++ map row_of xs)
whole row_of before head xs i has l a = a ∙ rw (take_all i xs l, flat_map_single row_of xs) refl
