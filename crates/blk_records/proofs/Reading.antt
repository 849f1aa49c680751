-- The items that were read and the records that are left make up the input.
use Rattle.std.proofs.Common.{◌≡◌, ◌+◌, ◌*◌, ◌≤◌, ◌<◌, ◌∙◌, ℕ, List, [], ◌∷◌, ◌++◌, length, mul-le-mul_right, Bool, true, false, Option, Some, None, refl, sym, ap, subst, inl, inr, arith, append_assoc, append-nil}
use Rattle.std.specs.Prelude.{IfSome, ◌⊎◌}
use Rattle.std.proofs.lemmas.List.{length-append}
use Rattle.blk_records.specs.Sources.{Row, TakesRecord}
use Rattle.blk_records.specs.declared.fault.TextReason.{TextReason}
use Rattle.text_grammar.specs.declared.Repeats.{Repeats}
use Rattle.text_grammar.specs.declared.Repeats.TheVariants as repeats
use Rattle.text_grammar.specs.Parts.{then, over, Part, Begins, GetsTo, all_rows, AllFit, after, GoesOn, Stops, IsCount, most_of}
use Rattle.text_grammar.specs.Laws.{Tells}
use Rattle.text_grammar.specs.Inside.Laws.{IsItem}
use Rattle.text_grammar.proofs.Many.{all_more, fit_more, ended_reached, many_reached}
use Rattle.text_grammar.proofs.Then.{both_begin, at_first, reached_first, reached_second, after_all_reached}
use Rattle.blk_records.specs.Reads.{IsOutside, Reads, HandReads, HandFails, Fails, Halts, Reaches, IsRowOf, IsWrongRecord, IsStopped, ItemsBefore, with_next, repeated, ended_of, items_of, size_of, beyond_of}

takes_some : (rest : List Row) (after : Option (List Row)) (f : Row) → TakesRecord (Some rest) after f true → (more : List Row) × (rest ≡ f ∷ more) × (after ≡ Some more)
takes_some [] after f t = cc t
takes_some (r ∷ rs) after f t = (rs, rw t.1 refl, t.2)

takes_none : (rest : List Row) (after : Option (List Row)) (f : Row) → TakesRecord (Some rest) after f false → rest ≡ []
takes_none [] after f t = refl
takes_none (r ∷ rs) after f t = cc t.0

pub after_all : {V : Type 0} (s vs : List V) → after with_next s vs ≡ s ++ vs
after_all s [] = sym (append-nil s)
after_all s (v ∷ vs) = after_all (s ++ v ∷ []) vs ∙ append_assoc s (v ∷ []) vs

-- the input is the records of these items and then those that are left
abbrev pub MadeOf : {V : Type 0} → (List V → Part Row TextReason V) → Option (List Row) → List V → Option (List Row) → Type 0
MadeOf q input vs left = IfSome input (λ rows. (rest : List Row) × (left ≡ Some rest) × (rows ≡ all_rows q with_next [] vs ++ rest))

-- all items fit
abbrev pub Fitting : {V : Type 0} → (List V → Part Row TextReason V) → List V → Type 0
Fitting q vs = AllFit q with_next [] vs

pub made_more : {V : Type 0} (q : List V → Part Row TextReason V) (input left mid new : Option (List Row)) (vs : List V) (row : Row) (v : V)
    → MadeOf q input vs left → TakesRecord left mid row true → HandReads (q vs) mid row new v → MadeOf q input (vs ++ v ∷ []) new
made_more q None left mid new vs row v m t h = tt
made_more q (Some rows) left mid new vs row v m t h =
    let (more, first, then) = takes_some m.0 mid row (rw m.1 at t) in
    let got = rw then at h in
    let made : m.0 ≡ (q (after with_next [] vs)).rows_of v ++ got.0 = rw (after_all [] vs) (first ∙ got.2.made) in
    (got.0, got.1, all_more q with_next [] vs v got.0 rows m.0 m.2 made)

pub fit_next : {V : Type 0} (q : List V → Part Row TextReason V) (vs : List V) (v : V) → Fitting q vs → (q vs).Fits v → Fitting q (vs ++ v ∷ [])
fit_next q vs v f g = fit_more q with_next [] vs v f (rw (after_all [] vs) g)

size_all : {V : Type 0} (q : List V → Part Row TextReason V) (s vs : List V) (v : V) → length (all_rows q with_next s (vs ++ v ∷ [])) ≡ length (all_rows q with_next s vs) + length ((q (after with_next s vs)).rows_of v)
size_all q s [] v = omega (arith, length-append ((q s).rows_of v) [])
size_all q s (u ∷ vs) v =
    let r = size_all q (with_next s u) vs v in
    omega (arith, r, length-append ((q s).rows_of u) (all_rows q with_next (with_next s u) (vs ++ v ∷ [])), length-append ((q s).rows_of u) (all_rows q with_next (with_next s u) vs))

pub size_next : {V : Type 0} (q : List V → Part Row TextReason V) (vs : List V) (v : V) → size_of q (vs ++ v ∷ []) ≡ size_of q vs + length ((q vs).rows_of v)
size_next q vs v = size_all q [] vs v ∙ ap (λ t. size_of q vs + length ((q t).rows_of v)) (after_all [] vs)

here : (x : Repeats) (c : ℕ) (row : Row) (rest : List Row) → c < most_of x → GoesOn x c (row ∷ rest)
here (repeats.AtMost n) c row rest l = (l, λ e. (cc e))
here (repeats.Exactly n) c row rest l = l

pub full_count : (x : Repeats) (c : ℕ) → c ≡ most_of x → IsCount x c
full_count (repeats.AtMost n) c e = omega (arith, e)
full_count (repeats.Exactly n) c e = e

pub full_stops : (x : Repeats) (c : ℕ) → c ≡ most_of x → (rest : List Row) → Stops {R = Row} x c rest
full_stops (repeats.AtMost n) c e rest = inl e
full_stops (repeats.Exactly n) c e rest = e

-- an item is wrong
pub items_wrong : {V : Type 0} (failed : Bool) (q : List V → Part Row TextReason V) (x : Repeats) (input left mid : Option (List Row)) (vs : List V) (row : Row) (start now at : ℕ) (w : TextReason)
    → MadeOf q input vs left → TakesRecord left mid row true → Fitting q vs → length vs < most_of x → now ≡ start + size_of q vs + 1
    → HandFails failed (q vs) mid row now at w → Fails failed (repeated x q) input start at w
items_wrong failed q x None left mid vs row start now at w m t f l e h = tt
items_wrong failed q x (Some rows) left mid vs row start now at w m t f l e h =
    let (more, first, then) = takes_some m.0 mid row (rw m.1 at t) in
    tell more (m.2 ∙ ap (λ z. all_rows q with_next [] vs ++ z) first) (rw then at h)
  where
    tell : (more : List Row) → rows ≡ all_rows q with_next [] vs ++ (row ∷ more) → (IsOutside failed w ⊎ ((k : ℕ) × (at + 1 ≡ now + k) × (q vs).Wrong (row ∷ more) k w))
        → IsOutside failed w ⊎ ((k : ℕ) × (at ≡ start + k) × (repeated x q).Wrong rows k w)
    tell more made (inl o) = inl o
    tell more made (inr b) =
        let is = b.1 in
        inr (size_of q vs + b.0, omega (arith, is, e), (vs, row ∷ more, b.0, f, made, here x (length vs) row more l, refl, rw (after_all [] vs) b.2))

-- an item never came
pub items_few : {V : Type 0} (failed : Bool) (q : List V → Part Row TextReason V) (x : Repeats) (n : ℕ) (input left mid : Option (List Row)) (vs : List V) (row : Row) (start at : ℕ) (w : TextReason)
    → x ≡ repeats.Exactly n → MadeOf q input vs left → TakesRecord left mid row false → Fitting q vs → length vs < most_of x → at ≡ start + size_of q vs + 1
    → (q vs).Wrong [] 1 w → Fails failed (repeated x q) input start at w
items_few failed q x n None left mid vs row start at w g m t f l e h = tt
items_few failed q x n (Some rows) left mid vs row start at w g m t f l e h =
    let none = takes_none m.0 mid row (rw m.1 at t) in
    inr (size_of q vs + 1, omega (arith, e), (vs, [], 1, f, (m.2 ∙ rw none refl), rw g (rw g at l), refl, rw (after_all [] vs) h))

-- the text is over where there may be fewer
pub items_over : {V : Type 0} (q : List V → Part Row TextReason V) (x : Repeats) (n : ℕ) (input left mid : Option (List Row)) (vs : List V) (row : Row)
    → x ≡ repeats.AtMost n → MadeOf q input vs left → TakesRecord left mid row false → Fitting q vs → length vs < most_of x → IfSome input (λ rows. Begins (repeated x q) rows vs [])
items_over q x n None left mid vs row g m t f l = tt
items_over q x n (Some rows) left mid vs row g m t f l =
    let none = takes_none m.0 mid row (rw m.1 at t) in
    let few : length vs ≤ n = let less : length vs < n = rw g at l in omega (arith, less) in
    record { fits = (f, rw g few); made = m.2 ∙ rw none refl; follows = rw g (inr refl) }

pub few_count : (x : Repeats) (n c : ℕ) → x ≡ repeats.AtMost n → c < most_of x → IsCount x c
few_count x n c g l = let less : c < n = rw g at l in let few : c ≤ n = omega (arith, less) in rw g few

-- as many as there may be
pub items_full : {V : Type 0} (q : List V → Part Row TextReason V) (x : Repeats) (input left : Option (List Row)) (vs : List V)
    → MadeOf q input vs left → Fitting q vs → length vs ≡ most_of x → Reads (repeated x q) input left vs
items_full q x None left vs m f e = tt
items_full q x (Some rows) left vs m f e = (m.0, m.1, record { fits = (f, full_count x (length vs) e); made = m.2; follows = full_stops x (length vs) e m.0 })

-- room for one item more
pub room : (c n m : ℕ) → c < n → c * (m + 1) + (m + 1) ≤ n * (m + 1)
room c n m l = let r : (c + 1) * (m + 1) ≤ n * (m + 1) = mul-le-mul_right (m + 1) (omega (arith, l)) in omega (arith, r)

-- reading stopped in an item, before which the others are good
pub stopped : {V : Type 0} (q : List V → Part Row TextReason V) (x : Repeats) (input left : Option (List Row)) (vs : List V) (start more at last : ℕ) → MadeOf q input vs left → Fitting q vs → length vs ≤ most_of x
    → start + (size_of q vs + 1) ≤ at → at ≤ last → last ≤ start + (size_of q vs + 1) + more → IsStopped x q input start more at last
stopped q x None left vs start more at last m f l a b c = (size_of q vs + 1, a, b, c, tt)
stopped q x (Some rows) left vs start more at last m f l a b c = (size_of q vs + 1, a, b, c, (vs, m.0, f, m.2, l, refl))

-- the end of the text after items

pub outside_fails : {V : Type 0} (failed : Bool) (p : Part Row TextReason V) (left : Option (List Row)) (start at : ℕ) (w : TextReason) → IsOutside failed w → Fails failed p left start at w
outside_fails failed p None start at w o = tt
outside_fails failed p (Some rows) start at w o = inl o

pub many_fails : {V W : Type 0} (failed : Bool) (q : List V → Part Row TextReason V) (past : List V → Part Row TextReason W) (x : Repeats) (left : Option (List Row)) (start at : ℕ) (w : TextReason) → Fails failed (repeated x q) left start at w
    → Fails failed (ended_of x q past) left start at w
many_fails failed q past x None start at w f = tt
many_fails failed q past x (Some rows) start at w f = elim f [
  | inl o ↦ inl o
  | inr k ↦ inr (k.0, k.1, inl k.2)
]

pub many_ends : {V W : Type 0} (q : List V → Part Row TextReason V) (past : List V → Part Row TextReason W) (x : Repeats) (left : Option (List Row)) (vs : List V) → IfSome left (λ rows. Begins (repeated x q) rows vs [])
    → IfSome left (λ rows. Begins (ended_of x q past) rows vs [])
many_ends q past x None vs h = tt
many_ends q past x (Some rows) vs h = record { fits = (h.fits, tt); made = h.made ∙ ap (λ z. z ++ []) (sym (append-nil (all_rows q with_next [] vs))); follows = (h.follows, refl) }

pub full_ends : {V : Type 0} (q : List V → Part Row TextReason V) (x : Repeats) (left mid new : Option (List Row)) (vs : List V) (row : Row) → Reads (repeated x q) left mid vs → TakesRecord mid new row false
    → IfSome left (λ rows. Begins (repeated x q) rows vs [])
full_ends q x None mid new vs row h t = tt
full_ends q x (Some rows) mid new vs row h t = let none = takes_none h.0 new row (rw h.1 at t) in rw none at h.2

pub past_wrong : {V W : Type 0} (failed : Bool) (q : List V → Part Row TextReason V) (past : List V → Part Row TextReason W) (x : Repeats) (left mid new : Option (List Row)) (vs : List V) (row : Row) (start at : ℕ) (w : TextReason)
    → Reads (repeated x q) left mid vs → TakesRecord mid new row true → at ≡ start + size_of q vs + 1 → ((rest : List Row) → (over (beyond_of x) (past vs)).Wrong (row ∷ rest) 1 w) → Fails failed (ended_of x q past) left start at w
past_wrong failed q past x None mid new vs row start at w h t e bad = tt
past_wrong failed q past x (Some rows) mid new vs row start at w h t e bad =
    let (more, first, then) = takes_some h.0 new row (rw h.1 at t) in
    inr (size_of q vs + 1, omega (arith, e), inr (vs, row ∷ more, 1, rw first at h.2, refl, rw (after_all [] vs) (bad more)))

pub full_stopped : {V : Type 0} (q : List V → Part Row TextReason V) (x : Repeats) (left mid : Option (List Row)) (vs : List V) (start more at : ℕ) → Reads (repeated x q) left mid vs → length vs ≡ most_of x → at ≡ start + size_of q vs + 1
    → IsStopped x q left start more at at
full_stopped q x None mid vs start more at h l e = (size_of q vs + 1, omega (arith, e), omega arith, omega (arith, e), tt)
full_stopped q x (Some rows) mid vs start more at h l e = (size_of q vs + 1, omega (arith, e), omega arith, omega (arith, e), (vs, h.0, h.2.fits.0, h.2.made, omega (arith, l), refl))

-- two parts in turn

pub then_reads : {V W : Type 0} (p : Part Row TextReason V) (q : V → Part Row TextReason W) (left mid : Option (List Row)) (v : V) (w : W) → Reads p left mid v
    → IfSome mid (λ rows. Begins (q v) rows w []) → IfSome left (λ rows. Begins (then p q) rows (v, w) [])
then_reads p q None mid v w h k = tt
then_reads p q (Some rows) mid v w h k = both_begin p q rows h.0 v w [] h.2 (rw h.1 at k)

-- one record

pub line_reads : {V : Type 0} (p : Part Row TextReason V) (left new : Option (List Row)) (row : Row) (v : V) → TakesRecord left new row true → IsRowOf p row v → Reads p left new v
line_reads p None new row v t h = tt
line_reads p (Some rows) new row v t h = let (more, first, then) = takes_some rows new row t in (more, then, subst (λ r. Begins p r v more) (sym first) (h more))

pub hand_reads : {V : Type 0} (p : Part Row TextReason V) (left : Option (List Row)) (row : Row) (v : V) → IsRowOf p row v → HandReads p left row left v
hand_reads p None row v h = tt
hand_reads p (Some rows) row v h = (rows, refl, h rows)

-- one record, where reading stops: it is wrong by itself, or there was a fault from outside

pub record_halts : {V : Type 0} (failed : Bool) (p : Part Row TextReason V) → Tells p → (left new : Option (List Row)) (row : Row) (start at : ℕ) (w : TextReason) → at ≡ start + 1 → TakesRecord left new row true → IsWrongRecord p row w
    → Halts failed p left start at w
record_halts failed p t None new row start at w e taken bad = tt
record_halts failed p t (Some rows) new row start at w e taken bad =
    let (more, first, then) = takes_some rows new row taken in (1, e, at_first p t rows, inr (subst (λ r. p.Wrong r 1 w) (sym first) (bad more)))

pub outside_halts : {V : Type 0} (failed : Bool) (p : Part Row TextReason V) → Tells p → (left : Option (List Row)) (start at : ℕ) (w : TextReason) → at ≡ start + 1 → IsOutside failed w → Halts failed p left start at w
outside_halts failed p t None start at w e o = tt
outside_halts failed p t (Some rows) start at w e o = (1, e, at_first p t rows, inl o)

-- two parts in turn, where reading stops

pub first_halts : {V W : Type 0} (failed : Bool) (p : Part Row TextReason V) (q : V → Part Row TextReason W) (left : Option (List Row)) (start at : ℕ) (w : TextReason) → ((v : V) → p.Fits v → Tells (q v)) → Halts failed p left start at w
    → Halts failed (then p q) left start at w
first_halts failed p q None start at w s h = tt
first_halts failed p q (Some rows) start at w s h = (
  h.0,
  h.1,
  reached_first p q s rows h.0 h.2,
  elim h.3 [
    | inl o ↦ inl o
    | inr f ↦ inr (inl f)
  ],
)

pub second_halts : {V W : Type 0} (failed : Bool) (p : Part Row TextReason V) (q : V → Part Row TextReason W) (left mid : Option (List Row)) (v : V) (start middle at : ℕ) (w : TextReason) → Tells p → Reads p left mid v
    → middle ≡ start + length (p.rows_of v) → Halts failed (q v) mid middle at w → Halts failed (then p q) left start at w
second_halts failed p q None mid v start middle at w t h e f = tt
second_halts failed p q (Some rows) mid v start middle at w t h e f =
    let b = rw h.1 at f in
    let is = b.1 in (
      length (p.rows_of v) + b.0,
      omega (arith, is, e),
      reached_second p q t rows h.0 v b.0 h.2 b.2,
      elim b.3 [
        | inl o ↦ inl o
        | inr k ↦ inr (inr (v, h.0, b.0, h.2, refl, k))
      ],
    )

pub second_fails : {V W : Type 0} (failed : Bool) (p : Part Row TextReason V) (q : V → Part Row TextReason W) (left mid : Option (List Row)) (v : V) (start middle at : ℕ) (w : TextReason) → Reads p left mid v → middle ≡ start + length (p.rows_of v)
    → Fails failed (q v) mid middle at w → Fails failed (then p q) left start at w
second_fails failed p q None mid v start middle at w h e f = tt
second_fails failed p q (Some rows) mid v start middle at w h e f = elim (rw h.1 at f) [
  | inl o ↦ inl o
  | inr k ↦ (let is = k.1 in inr (length (p.rows_of v) + k.0, omega (arith, is, e), inr (v, h.0, k.0, h.2, refl, k.2)))
]

-- lines, where reading stops

-- of a part that is reached where an item begins after good ones
stopped_halts : {V : Type 0} (failed : Bool) (q : List V → Part Row TextReason V) (x : Repeats) (p : Part Row TextReason (List V)) → ((rows : List Row) (place : ℕ) → ItemsBefore x q rows place → GetsTo p rows place)
    → (left : Option (List Row)) (start at last : ℕ) (w : TextReason) → IsStopped x q left start 0 at last → Fails failed p left start at w → Halts failed p left start at w
stopped_halts failed q x p reached None start at last w s f = tt
stopped_halts failed q x p reached (Some rows) start at last w s f =
    let low = s.1 in
    let middle = s.2 in
    let high = s.3 in
    let is : at ≡ start + s.0 = omega (arith, low, middle, high) in (
      s.0,
      is,
      reached rows s.0 s.4,
      elim f [
        | inl o ↦ inl o
        | inr k ↦ (let other = k.1 in let same : k.0 ≡ s.0 = omega (arith, is, other) in inr (rw same at k.2))
      ],
    )

pub lines_halt : {V : Type 0} (failed : Bool) (q : List V → Part Row TextReason V) (x : Repeats) (left : Option (List Row)) (start at last : ℕ) (w : TextReason) → ((s : List V) → IsItem (q s))
    → IsStopped x q left start 0 at last → Fails failed (items_of x q) left start at w → Halts failed (items_of x q) left start at w
lines_halt failed q x left start at last w items =
    stopped_halts failed q x (items_of x q) (λ rows place good. ended_reached x (beyond_of x) q q with_next items (λ s. (items s).tells) [] rows place good) left start at last w

-- the same of items that something else may follow
pub many_halt : {V : Type 0} (failed : Bool) (q : List V → Part Row TextReason V) (x : Repeats) (left : Option (List Row)) (start at last : ℕ) (w : TextReason) → ((s : List V) → IsItem (q s))
    → IsStopped x q left start 0 at last → Fails failed (repeated x q) left start at w → Halts failed (repeated x q) left start at w
many_halt failed q x left start at last w items =
    stopped_halts failed q x (repeated x q) (λ rows place good. many_reached x q with_next items [] rows place good) left start at last w

-- past the last record of a part that is spelled
pub ends_halt : {V : Type 0} (failed : Bool) (p : Part Row TextReason V) (left : Option (List Row)) (v : V) (start at : ℕ) (w : TextReason) → Tells p → IfSome left (λ rows. Begins p rows v [])
    → at ≡ start + (length (p.rows_of v) + 1) → IsOutside failed w → Halts failed p left start at w
ends_halt failed p None v start at w t h e o = tt
ends_halt failed p (Some rows) v start at w t h e o = (length (p.rows_of v) + 1, e, after_all_reached p t rows v [] h, inl o)

-- past the last record of a text that is spelled
pub end_halts : {V : Type 0} (failed : Bool) (p : Part Row TextReason V) (left : Option (List Row)) (v : V) (at : ℕ) (w : TextReason) → Tells p → IfSome left (λ rows. Begins p rows v []) → at ≡ length (p.rows_of v) + 1 → IsOutside failed w
    → Halts failed p left 0 at w
end_halts failed p left v at w t h e o = ends_halt failed p left v 0 at w t h (omega (arith, e)) o

-- where a text begins: its fault, and that it is reached

pub halts_err : {V : Type 0} (failed : Bool) (p : Part Row TextReason V) (left : Option (List Row)) (at : ℕ) (w : TextReason) → Halts failed p left 0 at w → IfSome left (λ rows. IsOutside failed w ⊎ p.Wrong rows at w)
halts_err failed p None at w f = tt
halts_err failed p (Some rows) at w f = elim f.3 [
  | inl o ↦ inl o
  | inr k ↦ (let is = f.1 in let same : f.0 ≡ at = omega (arith, is) in inr (rw same at k))
]

pub halts_reached : {V : Type 0} (failed : Bool) (p : Part Row TextReason V) (left : Option (List Row)) (at : ℕ) (w : TextReason) → Halts failed p left 0 at w → Reaches p left 0 at
halts_reached failed p None at w f = tt
halts_reached failed p (Some rows) at w f = (f.0, f.1, f.2)
