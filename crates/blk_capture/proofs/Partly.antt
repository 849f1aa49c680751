-- A part of what is taken, dispatch by dispatch.
use Rattle.std.proofs.Common.{◌≡◌, ◌<◌, ◌≤◌, ◌+◌, ◌++◌, ◌∙◌, ℕ, suc, Bool, true, cond, List, [], ◌∷◌, length, get_or, map, take, drop, nat_lt, Option, None, Some, inl, inr, refl, sym, ap, subst, arith}
use Rattle.std.specs.List.{slice_get, filter_map, enumerate_from}
use Rattle.std.specs.List.Sorted.{IsNonDecreasingBy}
use Rattle.std.specs.Option.{option_and_then}
use Rattle.std.proofs.lemmas.Bool.{cases_lt, lt-ltb, le-ltb}
use Rattle.std.proofs.lemmas.List.{map_push, get_or_append_left, get_or_push, length_push, length-append, length-take-le, take_all, drop_all, take-append-le, drop-append-le, take-append-drop}
use Rattle.std.proofs.lemmas.List.Elements.{filter_map-append}
use Rattle.std.proofs.lemmas.List.Sums.{sum_by_push, sum_by-cons, count_by-le-length}
use Rattle.blk_capture.specs.Parting.{gone_before, part}
use Rattle.blk_capture.specs.Requests.{AreTimed}
use Rattle.blk_capture.specs.Rules.{Known, goes_out_by}
use Rattle.blk_capture.specs.Settled.{taken_if, taken_last, taken_from, all_taken, captured}
use Rattle.blk_capture.specs.Inside.Figures.{AreFiguresOf}
use Rattle.blk_capture.specs.Inside.Partly.{plain, HasAdded}
use Rattle.blk_capture.specs.declared.clock.Dispatch.{Dispatch}
use Rattle.blk_capture.specs.declared.figures.Figures.{Figures}
use Rattle.blk_capture.specs.declared.opened.Opened.{Opened}
use Rattle.blk_capture.specs.declared.requests.CapturedRequest.{CapturedRequest}
use Rattle.blk_capture.specs.declared.requests.Options.{Options}
use Rattle.blk_capture.proofs.Placing.{by_bool, some_is, some_not, taken_next, one_of, none_of, append_none}

abbrev is_before : ℕ → CapturedRequest → Bool
is_before begin q = nat_lt q.dispatched begin

abbrev one_if : Bool → ℕ
one_if b = cond b 1 0

-- ---- one more at the end
pub gone_push : (begin : ℕ) (qs : List CapturedRequest) (q : CapturedRequest) → gone_before begin (qs ++ q ∷ []) ≡ gone_before begin qs + cond (nat_lt q.dispatched begin) 1 0
gone_push begin qs q = sum_by_push (λ (x : CapturedRequest). cond (nat_lt x.dispatched begin) 1 0) qs q

gone_all : (begin : ℕ) (qs : List CapturedRequest) → ((k : ℕ) (d : CapturedRequest) → k < length qs → (get_or qs k d).dispatched < begin) → gone_before begin qs ≡ length qs
gone_all begin [] low = refl
gone_all begin (q ∷ qs) low =
    let first : q.dispatched < begin = low 0 q (omega arith) in
    let one : one_if (nat_lt q.dispatched begin) ≡ 1 = ap one_if (lt-ltb q.dispatched begin first) in
    let rest : gone_before begin qs ≡ length qs = gone_all begin qs (λ k d h. low (suc k) d (omega (arith, h))) in
    omega (arith, one, rest, sum_by-cons (λ (x : CapturedRequest). cond (nat_lt x.dispatched begin) 1 0) q qs)

part_none : (begin first : ℕ) (qs : List CapturedRequest) → length qs ≤ gone_before begin qs → part begin first qs ≡ []
part_none begin first qs all = ap (take first) (drop_all (gone_before begin qs) qs all) ∙ take_all first [] (omega arith)

-- one that goes out before the time, as those before it
part_early : (begin first : ℕ) (qs : List CapturedRequest) (q : CapturedRequest) → IsNonDecreasingBy (λ x. x.dispatched) (qs ++ q ∷ []) → q.dispatched < begin → part begin first (qs ++ q ∷ []) ≡ part begin first qs
part_early begin first qs q rising low =
    let n : length (qs ++ q ∷ []) ≡ length qs + 1 = length_push qs q in
    let before : (k : ℕ) (d : CapturedRequest) → k < length qs → (get_or qs k d).dispatched < begin = λ k d h.
    (let up = rising k (length qs) d (omega (arith, h)) (omega (arith, n)) in
    let at = ap (λ (x : CapturedRequest). x.dispatched) (get_or_append_left qs (q ∷ []) d k h) in
    let last = ap (λ (x : CapturedRequest). x.dispatched) (get_or_push qs q d (length qs) refl) in
    omega (arith, up, at, last, low)) in
    let all : gone_before begin qs ≡ length qs = gone_all begin qs before in
    let one : one_if (nat_lt q.dispatched begin) ≡ 1 = ap one_if (lt-ltb q.dispatched begin low) in
    part_none begin first (qs ++ q ∷ []) (omega (arith, all, one, n, gone_push begin qs q)) ∙ sym (part_none begin first qs (omega (arith, all)))

gone_same : (begin : ℕ) (qs : List CapturedRequest) (q : CapturedRequest) → begin ≤ q.dispatched → gone_before begin (qs ++ q ∷ []) ≡ gone_before begin qs
gone_same begin qs q high =
    let none : one_if (nat_lt q.dispatched begin) ≡ 0 = ap one_if (le-ltb q.dispatched begin high) in
    omega (arith, none, gone_push begin qs q)

rest_push : (begin : ℕ) (qs : List CapturedRequest) (q : CapturedRequest) → begin ≤ q.dispatched → drop (gone_before begin (qs ++ q ∷ [])) (qs ++ q ∷ []) ≡ drop (gone_before begin qs) qs ++ q ∷ []
rest_push begin qs q high =
    ap (λ n. drop n (qs ++ q ∷ [])) (gone_same begin qs q high)
    ∙ drop-append-le (gone_before begin qs) qs (q ∷ []) (count_by-le-length (is_before begin) qs)

take_few : {X : Type 0} (first : ℕ) (xs : List X) → length (take first xs) < first → length xs < first
take_few first xs few = elim (cases_lt (length xs) first) [
  | inl low ↦ low
  | inr high ↦ (let n : length (take first xs) ≡ first = length-take-le first xs high in absurd (omega (arith, n, few)))
]

take_many : {X : Type 0} (first : ℕ) (xs : List X) → first ≤ length (take first xs) → first ≤ length xs
take_many first xs many = elim (cases_lt (length xs) first) [
  | inl low ↦ (let all : length (take first xs) ≡ length xs = ap length (take_all first xs (omega (arith, low))) in absurd (omega (arith, all, many, low)))
  | inr high ↦ high
]

-- one that is among the first; one that is behind them
part_more : (begin first : ℕ) (qs : List CapturedRequest) (q : CapturedRequest) → begin ≤ q.dispatched → length (part begin first qs) < first → part begin first (qs ++ q ∷ []) ≡ part begin first qs ++ q ∷ []
part_more begin first qs q high few =
    let rest : List CapturedRequest = drop (gone_before begin qs) qs in
    let low : length rest < first = take_few first rest few in
    ap (take first) (rest_push begin qs q high)
    ∙ take_all first (rest ++ q ∷ []) (omega (arith, low, length_push rest q))
    ∙ ap (λ xs. xs ++ q ∷ []) (sym (take_all first rest (omega (arith, low))))

part_full : (begin first : ℕ) (qs : List CapturedRequest) (q : CapturedRequest) → begin ≤ q.dispatched → first ≤ length (part begin first qs) → part begin first (qs ++ q ∷ []) ≡ part begin first qs
part_full begin first qs q high many =
    let rest : List CapturedRequest = drop (gone_before begin qs) qs in
    ap (take first) (rest_push begin qs q high) ∙ take-append-le first rest (q ∷ []) (take_many first rest many)

-- ---- one dispatch more
enumerate_both : {X : Type 0} (a : ℕ) (xs ys : List X) → enumerate_from a (xs ++ ys) ≡ enumerate_from a xs ++ enumerate_from (a + length xs) ys
enumerate_both a [] ys = ap (λ n. enumerate_from n ys) (let e : a ≡ a + 0 = omega arith in e)
enumerate_both a (x ∷ xs) ys =
    ap (λ ps. (a, x) ∷ ps) (enumerate_both (a + 1) xs ys ∙ ap (λ n. enumerate_from (a + 1) xs ++ enumerate_from n ys) (let e : a + 1 + length xs ≡ a + length (x ∷ xs) = omega arith in e))

rising_left : (xs ys : List CapturedRequest) → IsNonDecreasingBy (λ x. x.dispatched) (xs ++ ys) → IsNonDecreasingBy (λ x. x.dispatched) xs
rising_left xs ys rising i j d low h =
    let n = length-append xs ys in
    let up = rising i j d low (omega (arith, h, n)) in
    let at_i = ap (λ (x : CapturedRequest). x.dispatched) (get_or_append_left xs ys d i (omega (arith, low, h))) in
    let at_j = ap (λ (x : CapturedRequest). x.dispatched) (get_or_append_left xs ys d j h) in
    omega (arith, up, at_i, at_j)

-- those of the first dispatches stand in order, since all do
rising_upto : (o : Options) (m : Known) (n : ℕ) → AreTimed (all_taken o m) → IsNonDecreasingBy (λ x. x.dispatched) (taken_from o m (take n m.dispatches))
rising_upto o m n timed =
    let first : List Dispatch = take n m.dispatches in
    let rest : List CapturedRequest = filter_map (taken_last o m) (enumerate_from (0 + length first) (drop n m.dispatches)) in
    let whole : all_taken o m ≡ taken_from o m first ++ rest =
    ap (taken_from o m) (sym (take-append-drop n m.dispatches)) ∙ ap (filter_map (taken_last o m)) (enumerate_both 0 first (drop n m.dispatches)) ∙ filter_map-append (taken_last o m) (enumerate_from 0 first) (enumerate_from (0 + length first) (drop n m.dispatches)) in
    rising_left (taken_from o m first) rest (subst (λ (xs : List CapturedRequest). IsNonDecreasingBy (λ x. x.dispatched) xs) whole timed.rising)

-- a request goes out at the time of its dispatch
out_at : (o : Options) (b n time : ℕ) (r : Option Opened) (q : CapturedRequest) → option_and_then (taken_if o b n time) r ≡ Some q → q.dispatched ≡ time
out_at o b n time None q e = absurd (some_not q (sym e))
out_at o b n time (Some r) q e = by_bool (goes_out_by n r.stage)
    (λ out. let is : captured o b time r ≡ q = some_is (captured o b time r) q (sym (ap (λ c. cond c (Some (captured o b time r)) None) out) ∙ e) in sym (ap (λ (x : CapturedRequest). x.dispatched) is))
    (λ out. absurd (some_not q (sym e ∙ ap (λ c. cond c (Some (captured o b time r)) None) out)))

pub sent_at_time : (o : Options) (m : Known) (n : ℕ) (x : Dispatch) (q : CapturedRequest) → taken_last o m (n, x) ≡ Some q → q.dispatched ≡ x.time
sent_at_time o m n x q e = out_at o (get_or m.openers x.request 0) n x.time (slice_get m.requests x.request) q e

-- the part of those of the first n dispatches
abbrev pub part_upto : ℕ → ℕ → Options → Known → ℕ → List CapturedRequest
part_upto begin first o m n = part begin first (taken_from o m (take n m.dispatches))

upto_put : (o : Options) (m : Known) (n : ℕ) (x : Dispatch) (q : CapturedRequest) → slice_get m.dispatches n ≡ Some x → taken_last o m (n, x) ≡ Some q → taken_from o m (take (n + 1) m.dispatches) ≡ taken_from o m (take n m.dispatches) ++ q ∷ []
upto_put o m n x q at some = taken_next o m m.dispatches n x at ∙ ap (λ qs. taken_from o m (take n m.dispatches) ++ qs) (one_of (taken_last o m) (n, x) q some)

pub next_none : (begin first : ℕ) (o : Options) (m : Known) (n : ℕ) (x : Dispatch) → slice_get m.dispatches n ≡ Some x → taken_last o m (n, x) ≡ None → part_upto begin first o m (n + 1) ≡ part_upto begin first o m n
next_none begin first o m n x at none =
    ap (part begin first) (taken_next o m m.dispatches n x at ∙ ap (λ qs. taken_from o m (take n m.dispatches) ++ qs) (none_of (taken_last o m) (n, x) none) ∙ append_none (taken_from o m (take n m.dispatches)))

option_cases : {T : Type 0} (r : Option CapturedRequest) → (r ≡ None → T) → ((q : CapturedRequest) → r ≡ Some q → T) → T
option_cases None none some = none refl
option_cases (Some q) none some = some q refl

pub next_early : (begin first : ℕ) (o : Options) (m : Known) (n : ℕ) (x : Dispatch) → AreTimed (all_taken o m) → slice_get m.dispatches n ≡ Some x → x.time < begin → part_upto begin first o m (n + 1) ≡ part_upto begin first o m n
next_early begin first o m n x timed at low = option_cases (taken_last o m (n, x))
    (λ none. next_none begin first o m n x at none)
    (λ q some.
    let is = upto_put o m n x q at some in
    let rising = subst (λ (xs : List CapturedRequest). IsNonDecreasingBy (λ y. y.dispatched) xs) is (rising_upto o m (n + 1) timed) in
    let time = sent_at_time o m n x q some in
    ap (part begin first) is ∙ part_early begin first (taken_from o m (take n m.dispatches)) q rising (omega (arith, time, low)))

pub next_full : (begin first : ℕ) (o : Options) (m : Known) (n : ℕ) (x : Dispatch) → slice_get m.dispatches n ≡ Some x → begin ≤ x.time → first ≤ length (part_upto begin first o m n) → part_upto begin first o m (n + 1) ≡ part_upto begin first o m n
next_full begin first o m n x at high many = option_cases (taken_last o m (n, x))
    (λ none. next_none begin first o m n x at none)
    (λ q some.
    let time = sent_at_time o m n x q some in
    ap (part begin first) (upto_put o m n x q at some) ∙ part_full begin first (taken_from o m (take n m.dispatches)) q (omega (arith, time, high)) many)

pub next_more : (begin first : ℕ) (o : Options) (m : Known) (n : ℕ) (x : Dispatch) (q : CapturedRequest) → slice_get m.dispatches n ≡ Some x → taken_last o m (n, x) ≡ Some q → begin ≤ x.time → length (part_upto begin first o m n) < first → part_upto begin first o m (n + 1) ≡ part_upto begin first o m n ++ q ∷ []
next_more begin first o m n x q at some high few =
    let time = sent_at_time o m n x q some in
    ap (part begin first) (upto_put o m n x q at some) ∙ part_more begin first (taken_from o m (take n m.dispatches)) q (omega (arith, time, high)) few

-- ---- figures of one dispatch more
taken_is : (o : Options) (m : Known) (n : ℕ) (x : Dispatch) (r : Opened) → slice_get m.requests x.request ≡ Some r → goes_out_by n r.stage ≡ true → taken_last o m (n, x) ≡ Some (captured o (get_or m.openers x.request 0) x.time r)
taken_is o m n x r there out =
    ap (option_and_then (taken_if o (get_or m.openers x.request 0) n x.time)) there ∙ ap (λ b. cond b (Some (captured o (get_or m.openers x.request 0) x.time r)) None) out

pub has_added : {A : Type 0} (o : Options) (m : Known) (n : ℕ) (x : Dispatch) (qs : List CapturedRequest) (f : Figures A) (r : Opened) (p : CapturedRequest) → slice_get m.requests x.request ≡ Some r → goes_out_by n r.stage ≡ true → p ≡ captured o 0 x.time r
    → AreFiguresOf (map plain qs ++ p ∷ []) f → HasAdded o m n x qs f
has_added o m n x qs f r p there out same are =
    let is = taken_is o m n x r there out in
    record {
      none = λ e. absurd (some_not (captured o (get_or m.openers x.request 0) x.time r) (sym is ∙ e));
      one = λ q e.
          let one : plain q ≡ p = ap plain (some_is q (captured o (get_or m.openers x.request 0) x.time r) (sym e ∙ is)) ∙ sym same in
          subst (λ (xs : List CapturedRequest). AreFiguresOf xs f) (sym (map_push plain qs q ∙ ap (λ z. map plain qs ++ z ∷ []) one)) are;
    }

pub added_next : {A : Type 0} (begin first : ℕ) (o : Options) (m : Known) (n : ℕ) (x : Dispatch) (f : Figures A) → slice_get m.dispatches n ≡ Some x → begin ≤ x.time → length (part_upto begin first o m n) < first → HasAdded o m n x (part_upto begin first o m n) f
    → AreFiguresOf (map plain (part_upto begin first o m (n + 1))) f
added_next begin first o m n x f at high few has = option_cases (taken_last o m (n, x))
    (λ none. subst (λ (xs : List CapturedRequest). AreFiguresOf (map plain xs) f) (sym (next_none begin first o m n x at none)) (has.none none))
    (λ q some. subst (λ (xs : List CapturedRequest). AreFiguresOf (map plain xs) f) (sym (next_more begin first o m n x q at some high few)) (has.one q some))

pub same_next : {A : Type 0} (begin first : ℕ) (o : Options) (m : Known) (n : ℕ) (f : Figures A) → part_upto begin first o m (n + 1) ≡ part_upto begin first o m n → AreFiguresOf (map plain (part_upto begin first o m n)) f → AreFiguresOf (map plain (part_upto begin first o m (n + 1))) f
same_next begin first o m n f same are = subst (λ (xs : List CapturedRequest). AreFiguresOf (map plain xs) f) (sym same) are
