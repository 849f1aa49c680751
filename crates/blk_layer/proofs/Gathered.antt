-- Lists that are gathered, one element after the other.
use Rattle.std.proofs.Common.{◌≡◌, ◌∙◌, ◌+◌, ◌<◌, ℕ, sym, ap, refl, arith, inl, inr, List, [], ◌∷◌, ◌++◌, Some, zero, suc, length, length-append, take, get_or}
use Rattle.std.specs.Prelude.{slice_get}
use Rattle.std.specs.List.{flat_map}
use Rattle.std.proofs.lemmas.List.{take_more, append-nil}
use Rattle.std.proofs.lemmas.Grind.{flat_map-append}
use Rattle.std.proofs.lemmas.Bool.{cases_Bool, ltb-true, ltb-false}
use lib.Dec.{ltb}
use Rattle.blk_bio.specs.Bios.{Bio}
use Rattle.blk_trace.specs.Happened.{Happened}
use Rattle.blk_trace.specs.declared.event.Event.TheVariants.{Release}
use Rattle.blk_trace.specs.Kinds.{releases}
use Rattle.blk_layer.specs.Seats.{SubmitterSeat, WorkerSeat}
use Rattle.blk_layer.specs.Closing.{all_accepted, all_ran}

-- the elements of lists, with one list more
flat_more : {X Y : Type 0} (f : X → List Y) (xs : List X) (i : ℕ) (x : X) → i < length xs → x ≡ get_or xs i x → flat_map f (take (i + 1) xs) ≡ flat_map f (take i xs) ++ f x
flat_more f xs i x low is =
    ap (flat_map f) (take_more xs i x low ∙ ap (λ y. take i xs ++ y ∷ []) (sym is)) ∙ flat_map-append f (take i xs) (x ∷ []) ∙ ap (λ l. flat_map f (take i xs) ++ l) (append-nil (f x))

pub accepted_more : (seats : List SubmitterSeat) (i : ℕ) (s : SubmitterSeat) → i < length seats → s ≡ get_or seats i s → all_accepted (take (i + 1) seats) ≡ all_accepted (take i seats) ++ s.accepted
unfolding all_accepted
accepted_more seats i s low is = flat_more (λ (x : SubmitterSeat). x.accepted) seats i s low is

pub ran_more : (seats : List WorkerSeat) (i : ℕ) (w : WorkerSeat) → i < length seats → w ≡ get_or seats i w → all_ran (take (i + 1) seats) ≡ all_ran (take i seats) ++ w.ran
unfolding all_ran
ran_more seats i w low is = flat_more (λ (x : WorkerSeat). x.ran) seats i w low is

pub no_accepted : all_accepted [] ≡ []
unfolding all_accepted
no_accepted = refl

pub no_ran : all_ran [] ≡ []
unfolding all_ran
no_ran = refl

-- an event at its place
pub event_at : (es : List Happened) (i : ℕ) (e : Happened) → i < length es → e ≡ get_or es i e → slice_get es i ≡ Some e
event_at [] i e low is = absurd (omega arith)
event_at (x ∷ es) zero e low is = ap Some (sym is)
event_at (x ∷ es) (suc i) e low is = event_at es i e (omega arith) is

-- no place of the events so far releases the id
pub none_yet : (es : List Happened) (i id : ℕ) (e : Happened) → i < length es → e ≡ get_or es i e → ((q : List Bio) → releases e ≡ Some (id, q) → ⊥)
    → ((k : ℕ) (q : List Bio) → k < i → slice_get es k ≡ Some (Release id q) → ⊥) → (k : ℕ) (q : List Bio) → k < i + 1 → slice_get es k ≡ Some (Release id q) → ⊥
none_yet es i id e low is here before k q less at = elim (cases_Bool (ltb k i)) [
  | inl y ↦ before k q (ltb-true k i y) at
  | inr n ↦
      let same : k ≡ i = omega (arith, less, ltb-false k i n) in
      let both : Some e ≡ Some (Release id q) = sym (event_at es i e low is) ∙ ap (slice_get es) (sym same) ∙ at in
      let one : e ≡ Release id q = cc in
      here q (ap (λ (x : Happened). releases x) one)
]

-- a place of the events is one
pub within_events : (es : List Happened) (k : ℕ) (e : Happened) → slice_get es k ≡ Some e → k < length es
within_events [] k e at = absurd (cc)
within_events (x ∷ es) zero e at = omega arith
within_events (x ∷ es) (suc k) e at = let r = within_events es k e at in omega (arith, r)

-- the commands of no workers, and of a first one and others
pub none_ran : (seats : List WorkerSeat) → length seats ≡ 0 → length (all_ran seats) ≡ 0
unfolding all_ran
none_ran [] h = refl
none_ran (w ∷ seats) h = absurd (omega (arith, h))

pub first_ran : (seats rest : List WorkerSeat) (w : WorkerSeat) → seats ≡ w ∷ rest → length (all_ran seats) ≡ length w.ran + length (all_ran rest)
unfolding all_ran
first_ran seats rest w e = ap (λ (l : List WorkerSeat). length (flat_map (λ (x : WorkerSeat). x.ran) l)) e ∙ length-append w.ran (flat_map (λ (x : WorkerSeat). x.ran) rest)
