-- The requests of ids, in a run and beside it.
use Rattle.std.proofs.Common.{◌≡◌, ◌<◌, ◌≤◌, ◌+◌, ◌-◌, ◌++◌, ◌∙◌, inl, inr, ℕ, zero, suc, Bool, true, false, cond, List, [], ◌∷◌, Option, None, Some, length, get_or, set, sym, ap, subst, refl, arith, get_or-set_same, get_or-set_other}
use borrow.Author.Tests.{ltb-true, ltb-false}
use Rattle.std.specs.Prelude.{drop, slice_get, nat_lt, if◌then◌else◌, IsSome, is_some, SomeIff, ◌^◌, OnOk, OnErr, Result, Ok, Err}
use Rattle.std.specs.Bool.{OnTrue, OnFalse}
use Rattle.std.specs.Option.{option_or}
use Rattle.std.specs.Ordering.{nat_cmp, is_eq, is_gt}
use Rattle.std.specs.Cmp.{nat_cmp_total, tied_itself}
use Rattle.std.specs.BTreeMap.{is_at}
use Rattle.std.proofs.lemmas.Bool.{cases_lt}
use Rattle.std.proofs.lemmas.List.{get_or_push}
use Rattle.blk_sched.proofs.Maps.{same_number}
use Rattle.blk_index.proofs.Order.{greater}
use Rattle.blk_sched.specs.Meaning.{Waiting}
use Rattle.blk_index.specs.Inside.Spots.{Becomes}
use Rattle.blk_index.specs.Inside.Lanes.{run_of, at_id, run_at, IsLeastId, IsLeastOrNone, AreInRange}
use Rattle.blk_index.specs.Inside.Search.{lesser_of}

abbrev pub Run : Type 0
Run = List (Option Waiting)

abbrev pub Entries : Type 0
Entries = List (ℕ × Waiting)

itself : (id : ℕ) → is_at (nat_cmp id) id ≡ true
itself id = ap is_eq (tied_itself nat_cmp_total id)

differs : (k id : ℕ) → (k ≡ id → ⊥) → is_at (nat_cmp id) k ≡ false
differs k id apart = elim (is_at (nat_cmp id) k) as (λ b. is_at (nat_cmp id) k ≡ b → b ≡ false) [
  | true ↦ λ e. absurd (apart (same_number id k e))
  | false ↦ λ _. refl
] refl

not_itself : (id k : ℕ) → k ≡ id → is_at (nat_cmp id) k ≡ false → ⊥
not_itself id k same e = let h : true ≡ false = sym (itself id) ∙ ap (λ (n : ℕ). is_at (nat_cmp id) n) (sym same) ∙ e in cc

-- ---- a run

-- an id that isn't the first is looked for after it
past : (from : ℕ) (o : Option Waiting) (os : Run) (k : ℕ) → (from ≡ k → ⊥) → run_at from (o ∷ os) k ≡ run_at (from + 1) os k
unfolding run_of
past from None os k apart = refl
past from (Some p) os k apart = ap (λ b. cond b (Some p) (run_at (from + 1) os k)) (differs from k apart)

-- one before the first isn't there
pub before : (from : ℕ) (os : Run) (k : ℕ) → k < from → run_at from os k ≡ None
unfolding run_of
before from [] k low = refl
before from (o ∷ os) k low = past from o os k (λ (e : from ≡ k). omega arith) ∙ before (from + 1) os k (omega arith)

-- and another the one that stands so far on
pub within : (from : ℕ) (os : Run) (i k : ℕ) → k ≡ from + i → run_at from os k ≡ get_or os i None
unfolding run_of
within from [] i k is = refl
within from (None ∷ os) zero k is = before (from + 1) os k (omega arith)
within from (Some p ∷ os) zero k is =
    let same : from ≡ k = omega arith in
    ap (λ b. cond b (Some p) (run_at (from + 1) os k)) (ap (λ (n : ℕ). is_at (nat_cmp k) n) same ∙ itself k)
within from (o ∷ os) (suc i) k is = past from o os k (λ (e : from ≡ k). omega arith) ∙ within (from + 1) os i k (omega arith)

-- what is read at a place of a run
pub read_at : (os : Run) (i : ℕ) (x : Option Waiting) → i < length os → x ≡ get_or os i x → x ≡ get_or os i None
read_at [] i x low is = absurd (omega arith)
read_at (o ∷ os) zero x low is = is
read_at (o ∷ os) (suc i) x low is = read_at os i x (omega arith) is

beyond : (os : Run) (i : ℕ) → length os ≤ i → get_or os i None ≡ None
beyond [] i far = refl
beyond (o ∷ os) zero far = absurd (omega arith)
beyond (o ∷ os) (suc i) far = beyond os i (omega arith)

pub none_beyond : (from : ℕ) (os : Run) (k : ℕ) → from ≤ k → length os ≤ k - from → run_at from os k ≡ None
none_beyond from os k low far = within from os (k - from) k (omega arith) ∙ beyond os (k - from) far

-- an id of none loses nothing
pub none_taken : (es : Entries) (id : ℕ) → at_id es id ≡ None → Becomes (at_id es) id None (at_id es)
none_taken es id none k = elim (is_at (nat_cmp id) k) as (λ b. is_at (nat_cmp id) k ≡ b → at_id es k ≡ cond b None (at_id es k)) [
  | true ↦ λ e. ap (at_id es) (same_number id k e) ∙ none
  | false ↦ λ _. refl
] refl

-- what stands at an id of a run is put there, or taken away
pub one_set : (from : ℕ) (os : Run) (id i : ℕ) (x : Option Waiting) → id ≡ from + i → i < length os → Becomes (run_at from os) id x (run_at from (set os i x))
one_set from os id i x is short k = elim (is_at (nat_cmp id) k) as (λ b. is_at (nat_cmp id) k ≡ b → run_at from (set os i x) k ≡ cond b x (run_at from os k)) [
  | true ↦ λ e. let same : k ≡ id = same_number id k e in within from (set os i x) i k (same ∙ is) ∙ get_or-set_same os i x None short
  | false ↦ λ e. elim (cases_lt k from) [
    | inl less ↦ before from (set os i x) k less ∙ sym (before from os k less)
    | inr more ↦
        within from (set os i x) (k - from) k (omega arith)
        ∙ get_or-set_other os i (k - from) x None (λ (same : k - from ≡ i). not_itself id k (omega arith) e)
        ∙ sym (within from os (k - from) k (omega arith))
  ]
] refl

-- a request is put after a run
elsewhere : (os : Run) (x : Option Waiting) (i : ℕ) → (i ≡ length os → ⊥) → get_or (os ++ x ∷ []) i None ≡ get_or os i None
elsewhere [] x zero apart = absurd (apart refl)
elsewhere [] x (suc i) apart = refl
elsewhere (y ∷ ys) x zero apart = refl
elsewhere (y ∷ ys) x (suc i) apart = elsewhere ys x i (λ (e : i ≡ length ys). apart (ap suc e))

pub one_put : (from : ℕ) (os : Run) (id : ℕ) (p : Waiting) → id ≡ from + length os → Becomes (run_at from os) id (Some p) (run_at from (os ++ Some p ∷ []))
one_put from os id p is k = elim (is_at (nat_cmp id) k) as (λ b. is_at (nat_cmp id) k ≡ b → run_at from (os ++ Some p ∷ []) k ≡ cond b (Some p) (run_at from os k)) [
  | true ↦ λ e. let same : k ≡ id = same_number id k e in within from (os ++ Some p ∷ []) (length os) k (omega arith) ∙ get_or_push os (Some p) None (length os) refl
  | false ↦ λ e. elim (cases_lt k from) [
    | inl less ↦ before from (os ++ Some p ∷ []) k less ∙ sym (before from os k less)
    | inr more ↦
        within from (os ++ Some p ∷ []) (k - from) k (omega arith)
        ∙ elsewhere os (Some p) (k - from) (λ (same : k - from ≡ length os). not_itself id k (omega arith) e)
        ∙ sym (within from os (k - from) k (omega arith))
  ]
] refl

-- the first of a run leaves it, where it doesn't wait
pub gone : (from next : ℕ) (os now : Run) → next ≡ from + 1 → slice_get os 0 ≡ Some None → now ≡ drop 1 os → run_of next now ≡ run_of from os
unfolding run_of
gone from next [] now is none rest = cc
gone from next (None ∷ os) now is none rest = ap (λ (n : ℕ). run_of n now) is ∙ ap (run_of (from + 1)) rest
gone from next (Some p ∷ os) now is none rest = cc

pub one_gone : (from next : ℕ) (os now : Run) → next ≡ from + 1 → slice_get os 0 ≡ Some None → now ≡ drop 1 os → AreInRange from os → AreInRange next now
one_gone from next [] now is none rest range = cc
one_gone from next (o ∷ os) now is none rest range = let e : length now ≡ length os = ap (λ (l : Run). length l) rest in omega (arith, e)

-- an id without a request is passed over
pub one_passed : (from : ℕ) (os : Run) → run_of from (os ++ None ∷ []) ≡ run_of from os
unfolding run_of
one_passed from [] = refl
one_passed from (None ∷ os) = one_passed (from + 1) os
one_passed from (Some p ∷ os) = ap (λ (es : Entries). (from, p) ∷ es) (one_passed (from + 1) os)

pub all_passed : (from : ℕ) (before after : Run) (fs all : Entries) → run_of from after ≡ run_of from before → run_of from before ++ fs ≡ all → run_of from after ++ fs ≡ all
all_passed from before after fs all same were = ap (λ (es : Entries). es ++ fs) same ∙ were

pub empty_run : (from next : ℕ) (os : Run) → length os ≡ 0 → run_of next os ≡ run_of from os
unfolding run_of
empty_run from next [] none = refl
empty_run from next (o ∷ os) none = absurd (omega arith)

pub no_run : (run : Run) (es : Entries) → run ≡ [] → es ≡ [] → run_of 0 run ++ es ≡ []
unfolding run_of
no_run run es empty none = ap (λ (os : Run). run_of 0 os ++ es) empty ∙ none

-- ---- a run and others

pub joined : (es fs : Entries) (k : ℕ) → at_id (es ++ fs) k ≡ option_or (at_id es k) (at_id fs k)
joined [] fs k = refl
joined (e ∷ es) fs k = elim (is_at (nat_cmp k) e.0) as (λ b. cond b (Some e.1) (at_id (es ++ fs) k) ≡ option_or (cond b (Some e.1) (at_id es k)) (at_id fs k)) [
  | true ↦ refl
  | false ↦ joined es fs k
]

pub found_first : (es fs : Entries) (k : ℕ) (p : Waiting) (o : Option Waiting) → o ≡ at_id es k → o ≡ Some p → Some p ≡ at_id (es ++ fs) k
found_first es fs k p o is there = sym (joined es fs k ∙ ap (λ x. option_or x (at_id fs k)) (sym is ∙ there))

pub found_then : (es fs : Entries) (k : ℕ) (o : Option Waiting) → None ≡ at_id es k → o ≡ at_id fs k → o ≡ at_id (es ++ fs) k
found_then es fs k o none is = is ∙ sym (joined es fs k ∙ ap (λ x. option_or x (at_id fs k)) (sym none))

first_none : (o x : Option Waiting) → option_or o x ≡ None → o ≡ None
first_none None x h = refl
first_none (Some p) x h = h

second_none : (o x : Option Waiting) → option_or o x ≡ None → x ≡ None
second_none None x h = h
second_none (Some p) x h = absurd (cc)

-- what is in neither of two is in none of them
pub none_first : (es fs : Entries) (k : ℕ) → at_id (es ++ fs) k ≡ None → at_id es k ≡ None
none_first es fs k none = first_none (at_id es k) (at_id fs k) (sym (joined es fs k) ∙ none)

pub none_second : (es fs : Entries) (k : ℕ) → at_id (es ++ fs) k ≡ None → at_id fs k ≡ None
none_second es fs k none = second_none (at_id es k) (at_id fs k) (sym (joined es fs k) ∙ none)

pub first_given : (es gs fs : Entries) (id : ℕ) (p : Waiting) → Becomes (at_id es) id (Some p) (at_id gs) → Becomes (at_id (es ++ fs)) id (Some p) (at_id (gs ++ fs))
first_given es gs fs id p gives k =
    joined gs fs k ∙ ap (λ o. option_or o (at_id fs k)) (gives k)
    ∙ elim (is_at (nat_cmp id) k) as (λ b. option_or (cond b (Some p) (at_id es k)) (at_id fs k) ≡ cond b (Some p) (at_id (es ++ fs) k)) [
      | true ↦ refl
      | false ↦ sym (joined es fs k)
    ]

pub then_given : (es fs gs : Entries) (id : ℕ) (p : Waiting) → at_id es id ≡ None → Becomes (at_id fs) id (Some p) (at_id gs) → Becomes (at_id (es ++ fs)) id (Some p) (at_id (es ++ gs))
then_given es fs gs id p none gives k =
    joined es gs k ∙ ap (option_or (at_id es k)) (gives k)
    ∙ elim (is_at (nat_cmp id) k) as (λ b. is_at (nat_cmp id) k ≡ b → option_or (at_id es k) (cond b (Some p) (at_id fs k)) ≡ cond b (Some p) (at_id (es ++ fs) k)) [
      | true ↦ λ e. ap (λ o. option_or o (Some p)) (ap (at_id es) (same_number id k e) ∙ none)
      | false ↦ λ _. sym (joined es fs k)
    ] refl

pub then_there : (es fs : Entries) (k : ℕ) → at_id es k ≡ None → IsSome (at_id (es ++ fs) k) → IsSome (at_id fs k)
then_there es fs k none there = subst IsSome (joined es fs k ∙ ap (λ o. option_or o (at_id fs k)) none) there

pub both_taken : (es gs fs hs : Entries) (id : ℕ) → Becomes (at_id es) id None (at_id gs) → Becomes (at_id fs) id None (at_id hs) → Becomes (at_id (es ++ fs)) id None (at_id (gs ++ hs))
both_taken es gs fs hs id one other k =
    joined gs hs k ∙ ap (λ o. option_or o (at_id hs k)) (one k) ∙ ap (option_or (cond (is_at (nat_cmp id) k) None (at_id es k))) (other k)
    ∙ elim (is_at (nat_cmp id) k) as (λ b. option_or (cond b None (at_id es k)) (cond b None (at_id fs k)) ≡ cond b None (at_id (es ++ fs) k)) [
      | true ↦ refl
      | false ↦ sym (joined es fs k)
    ]

-- the same of equal lists
pub given_of : (es fs : Entries) (id : ℕ) (o : Option Waiting) (new : ℕ → Option Waiting) → es ≡ fs → Becomes (at_id es) id o new → Becomes (at_id fs) id o new
given_of es fs id o new same gives k = gives k ∙ ap (λ l. cond (is_at (nat_cmp id) k) o (at_id l k)) same

pub taken_of : (es fs gs : Entries) (id : ℕ) → gs ≡ fs → Becomes (at_id es) id None (at_id fs) → Becomes (at_id es) id None (at_id gs)
taken_of es fs gs id same gives k = ap (λ l. at_id l k) same ∙ gives k

pub on_ok : {E P Q : Type 0} (r : Result (Unit {0}) E) → (P → Q) → OnOk r P → OnOk r Q
on_ok (Ok x) f h = f h
on_ok (Err e) f h = tt

pub on_true : {P : Type 0} (b : Bool) → P → OnTrue b P
on_true true h = h
on_true false h = tt

pub on_false : {P : Type 0} (b : Bool) → P → OnFalse b P
on_false true h = tt
on_false false h = h

pub on_err : {E P Q : Type 0} (r : Result (Unit {0}) E) → (P → Q) → OnErr r P → OnErr r Q
on_err (Ok x) f h = tt
on_err (Err e) f h = f h

-- ---- the least id

pub no_some : (x : Option Waiting) → is_some x ≡ false → x ≡ None
no_some None h = refl
no_some (Some p) h = cc

-- the first id of a run that is found, where those before it aren't
pub least_in : (from : ℕ) (os : Run) (i id : ℕ) (p : Waiting) → ((k : ℕ) → k < i → get_or os k None ≡ None) → get_or os i None ≡ Some p → id ≡ from + i → IsLeastId (run_at from os) id
least_in from os i id p none own is = record {
  there = ap is_some (within from os i id is ∙ own);
  least = λ k low. elim (cases_lt k from) [
    | inl less ↦ before from os k less
    | inr more ↦ within from os (k - from) k (omega arith) ∙ none (k - from) (omega arith)
  ];
}

pub least_at : (from : ℕ) (os : Run) (i : ℕ) (x : Option Waiting) (r : Option ℕ) → AreInRange from os → i < length os → ((k : ℕ) → k < i → get_or os k None ≡ None) → x ≡ get_or os i None → is_some x ≡ true → SomeIff r (from + i < 2 ^ 64) (from + i) → IsLeastOrNone (run_at from os) r
least_at from os i None r range short none is there sum = absurd (cc)
least_at from os i (Some p) None range short none is there sum = absurd (sum (omega (arith, range, short)))
least_at from os i (Some p) (Some id) range short none is there sum = least_in from os i id p none (sym is) sum.1

-- those before the next place have none, where the one there has none
pub one_further : (os : Run) (i : ℕ) (x : Option Waiting) → ((k : ℕ) → k < i → get_or os k None ≡ None) → x ≡ get_or os i None → is_some x ≡ false → (k : ℕ) → k < i + 1 → get_or os k None ≡ None
one_further os i x none is empty k low = elim (cases_lt k i) [
  | inl less ↦ none k less
  | inr more ↦ let same : k ≡ i = omega (arith, low, more) in ap (λ n. get_or os n None) same ∙ sym is ∙ no_some x empty
]

pub none_in : (from : ℕ) (os : Run) → ((k : ℕ) → k < length os → get_or os k None ≡ None) → (k : ℕ) → run_at from os k ≡ None
none_in from os none k = elim (cases_lt k from) [
  | inl less ↦ before from os k less
  | inr more ↦ within from os (k - from) k (omega arith) ∙ elim (cases_lt (k - from) (length os)) [
    | inl short ↦ none (k - from) short
    | inr far ↦ beyond os (k - from) far
  ]
]

in_neither : (es fs : Entries) (k : ℕ) → at_id es k ≡ None → at_id fs k ≡ None → at_id (es ++ fs) k ≡ None
in_neither es fs k one other = joined es fs k ∙ ap (λ x. option_or x (at_id fs k)) one ∙ other

in_first : (es fs : Entries) (k : ℕ) → IsSome (at_id es k) → IsSome (at_id (es ++ fs) k)
in_first es fs k one = elim (at_id es k) as (λ o. at_id es k ≡ o → IsSome o → IsSome (at_id (es ++ fs) k)) [
  | None ↦ λ _ h. absurd (cc)
  | Some p ↦ λ e _. ap is_some (joined es fs k ∙ ap (λ x. option_or x (at_id fs k)) e)
] refl one

in_second : (es fs : Entries) (k : ℕ) → at_id es k ≡ None → IsSome (at_id fs k) → IsSome (at_id (es ++ fs) k)
in_second es fs k none one = ap is_some (joined es fs k ∙ ap (λ x. option_or x (at_id fs k)) none) ∙ one

least_of_two : (es fs : Entries) (a b : ℕ) (less : Bool) → nat_lt b a ≡ less → IsLeastId (at_id es) a → IsLeastId (at_id fs) b → IsLeastId (at_id (es ++ fs)) (if less then b else a)
least_of_two es fs a b true e one other =
    let lt : b < a = ltb-true b a e in
    record {
      there = in_second es fs b (one.least b lt) other.there;
      least = λ k low. in_neither es fs k (one.least k (omega (arith, lt, low))) (other.least k low);
    }
least_of_two es fs a b false e one other =
    let le : a ≤ b = ltb-false b a e in
    record {
      there = in_first es fs a one.there;
      least = λ k low. in_neither es fs k (one.least k low) (other.least k (omega (arith, le, low)));
    }

-- of a run and others
pub least_of : (es fs : Entries) (one other : Option ℕ) → IsLeastOrNone (at_id es) one → IsLeastOrNone (at_id fs) other → IsLeastOrNone (at_id (es ++ fs)) (lesser_of one other)
least_of es fs None None one other = λ k. in_neither es fs k (one k) (other k)
least_of es fs None (Some b) one other = record { there = in_second es fs b (one b) other.there; least = λ k low. in_neither es fs k (one k) (other.least k low) }
least_of es fs (Some a) None one other = record { there = in_first es fs a one.there; least = λ k low. in_neither es fs k (one.least k low) (other k) }
least_of es fs (Some a) (Some b) one other = least_of_two es fs a b (nat_lt b a) refl one other

-- the first of others
pub first_other : (es : Entries) (id : ℕ) (p : Waiting) → at_id es id ≡ Some p → ((k : ℕ) → IsSome (at_id es k) → is_gt (nat_cmp id k) ≡ false) → IsLeastId (at_id es) id
first_other es id p there least = record {
  there = ap is_some there;
  least = λ k low. elim (at_id es k) as (λ o. at_id es k ≡ o → o ≡ None) [
    | None ↦ λ _. refl
    | Some q ↦ λ e. absurd (let h : true ≡ false = sym (ap is_gt (greater id k low)) ∙ least k (ap is_some e) in cc)
  ] refl;
}

pub no_other : (es : Entries) → es ≡ [] → (k : ℕ) → at_id es k ≡ None
no_other es empty k = ap (λ l. at_id l k) empty
