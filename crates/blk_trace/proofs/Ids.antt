-- Ids by place and in the lists of ids; induction over legal lists.
use Rattle.std.proofs.Common.{◌≡◌, ◌++◌, ◌==◌, ℕ, zero, suc, drop, List, [], ◌∷◌, length, refl, sym, ◌∙◌, ap, subst, arith, inl, inr, true, false, eq-eqb, eqb-true}
use Rattle.std.specs.Prelude.{◌||◌, Option, Some, None, option_map}
use Rattle.std.specs.Option.{option_map_or}
use Rattle.std.specs.List.{filter_map, cons_option, list_any}
use Rattle.std.proofs.lemmas.List.Folds.{list_any-append}
use Rattle.std.proofs.lemmas.Bool.{cases_Bool, false_from_ne_true, or_cases, or_left, or_right}
use Rattle.blk_bio.specs.Bios.{Bio}
use Rattle.blk_trace.specs.Happened.{Happened, Release, Issue}
use Rattle.blk_trace.specs.Kinds.{releases, issues, requeues}
use Rattle.blk_trace.specs.Setups.{Setup}
use Rattle.blk_trace.specs.Events.{At, IsReleased, IsIssued, AreRequeued}
use Rattle.blk_trace.specs.Legal.{IsLegalTrace}
use Rattle.blk_trace.specs.Rules.{BreaksNoRule}
use Rattle.blk_trace.specs.Issues.{outcome_of, was_requeued}
use Rattle.blk_trace.specs.Meaning.{issued_ids, released_ids}
use Rattle.blk_trace.specs.Waits.{has_id, was_issued}
use Rattle.blk_trace.proofs.Places.{of_take}
use Rattle.blk_trace.proofs.Words.{release_of_id, issue_is}
use Rattle.blk_trace.proofs.Pushing.{shorter_legal, obeys}
use Rattle.blk_trace.proofs.More.{released_more}
pub use Rattle.blk_trace.proofs.Served.{has_served, served_has}
use Rattle.blk_trace.proofs.Served.{new_ids, issued_more}

-- a list with an element has a last one
pub unsnoc : {X : Type 0} (xs : List X) (n : ℕ) → length xs ≡ suc n → (ys : List X) × ((y : X) × (xs ≡ ys ++ y ∷ []) × (length ys ≡ n))
unsnoc [] n h = absurd (omega arith)
unsnoc (x ∷ []) n h = ([], (x, refl, omega arith))
unsnoc (x ∷ y ∷ xs) zero h = absurd (omega arith)
unsnoc (x ∷ y ∷ xs) (suc n) h =
    let more = unsnoc (y ∷ xs) n (omega arith) in
    (x ∷ more.0, (more.1.0, ap (λ l. x ∷ l) more.1.1, omega (arith, more.1.2)))

-- induction over lists from the left
from_right : (P : List Happened → Type 0) → P [] → ((es : List Happened) (e : Happened) → P es → P (es ++ e ∷ [])) → (n : ℕ) (es : List Happened) → length es ≡ n → P es
from_right P base step zero [] h = base
from_right P base step zero (e ∷ es) h = absurd (omega arith)
from_right P base step (suc n) es h =
    let u = unsnoc es n h in
    subst P (sym u.1.1) (step u.0 u.1.0 (from_right P base step n u.0 u.1.2))

pub by_events : (P : List Happened → Type 0) → P [] → ((es : List Happened) (e : Happened) → P es → P (es ++ e ∷ [])) → (es : List Happened) → P es
by_events P base step es = from_right P base step (length es) es refl

-- induction over legal lists, one event after the other
pub by_legal : (setup : Setup) (P : List Happened → Type 0) → P [] → ((es : List Happened) (e : Happened) → IsLegalTrace setup (es ++ e ∷ []) → IsLegalTrace setup es → BreaksNoRule setup es e → P es → P (es ++ e ∷ [])) → (es : List Happened) → IsLegalTrace setup es → P es
by_legal setup P base step es legal =
    by_events (λ l. IsLegalTrace setup l → P l) (λ _. base) (λ l e h new. step l e new (shorter_legal setup l e new) (obeys setup l e new) (h (shorter_legal setup l e new))) es legal

-- what a word gives of an event in the list stands in the list of what it gives
picked_has : (f : Happened → Option ℕ) (es : List Happened) (k : ℕ) (e : Happened) (id : ℕ) → At es k e → f e ≡ Some id → has_id (filter_map f es) id ≡ true
picked_has f [] k e id h is = absurd (cc)
picked_has f (x ∷ es) zero e id h is =
    let same : f x ≡ Some id = let y : x ≡ e = cc in ap f y ∙ is in
    rw same (or_left (id == id) _ (eq-eqb id id refl))
picked_has f (x ∷ es) (suc k) e id h is = more (f x) (filter_map f es) id (picked_has f es k e id h is)
  where
    more : (o : Option ℕ) (xs : List ℕ) (id : ℕ) → has_id xs id ≡ true → has_id (cons_option o xs) id ≡ true
    more None xs id h = h
    more (Some i) xs id h = or_right (i == id) _ h

-- and the way back
record IsPicked (f : Happened → Option ℕ) (es : List Happened) (id : ℕ) : Type 0 where
  place : ℕ
  event : Happened
  stands : At es place event
  gives : f event ≡ Some id

later : (f : Happened → Option ℕ) (x : Happened) (es : List Happened) (id : ℕ) → IsPicked f es id → IsPicked f (x ∷ es) id
later f x es id p = record { place = suc p.place; event = p.event; stands = p.stands; gives = p.gives }

picked_first : (f : Happened → Option ℕ) (x : Happened) (es : List Happened) (id : ℕ) (o : Option ℕ) → f x ≡ o → (has_id (filter_map f es) id ≡ true → IsPicked f es id) → has_id (cons_option o (filter_map f es)) id ≡ true → IsPicked f (x ∷ es) id
picked_first f x es id None is rest h = later f x es id (rest h)
picked_first f x es id (Some i) is rest h = elim (or_cases (i == id) _ h) [
  | inl p ↦ record { place = 0; event = x; stands = refl; gives = is ∙ ap Some (eqb-true i id p) }
  | inr p ↦ later f x es id (rest p)
]

has_picked : (f : Happened → Option ℕ) (es : List Happened) (id : ℕ) → has_id (filter_map f es) id ≡ true → IsPicked f es id
has_picked f [] id h = absurd (cc)
has_picked f (x ∷ es) id h = picked_first f x es id (f x) refl (λ r. has_picked f es id r) h

-- the ids in the lists are those of the places
pub released_has : (es : List Happened) (k id : ℕ) (q : List Bio) → At es k (Release id q) → has_id (released_ids es) id ≡ true
unfolding released_ids
released_has es k id q h = picked_has (λ e. option_map (λ p. p.0) (releases e)) es k (Release id q) id h refl

pub has_released : (es : List Happened) (id : ℕ) → has_id (released_ids es) id ≡ true → IsReleased es id
unfolding released_ids
has_released es id h =
    let p = has_picked (λ e. option_map (λ p. p.0) (releases e)) es id h in
    let r = release_of_id p.event id p.gives in
    (p.place, (r.0, p.stands ∙ ap Some r.1))

pub has_issued : (es : List Happened) (id : ℕ) → has_id (issued_ids es) id ≡ true → IsIssued es id
has_issued es id h = let p = has_served es id h in (p.place, (p.tag, p.issued))

-- an id whose Issues were all requeued
pub all_back : (es : List Happened) (id : ℕ) → AreRequeued es id → has_id (issued_ids es) id ≡ false
all_back es id back = false_from_ne_true _ (λ t. let p = has_served es id t in let b : was_requeued (outcome_of p.tag (drop (suc p.place) es)) ≡ true = back p.place p.tag p.issued in let n = p.stays in absurd (cc))

pub back_all : (es : List Happened) (id : ℕ) → has_id (issued_ids es) id ≡ false → AreRequeued es id
back_all es id h k tag at =
    elim (cases_Bool (was_requeued (outcome_of tag (drop (suc k) es)))) [
      | inl b ↦ b
      | inr b ↦ absurd (let t : has_id (issued_ids es) id ≡ true = served_has es k id tag at b in cc)
    ]

-- whether an id was ever issued
pub issued_was : (es : List Happened) (id : ℕ) → IsIssued es id → was_issued es id ≡ true
unfolding was_issued
issued_was es id p = at_place es p.0 id p.1.0 p.1.1
  where
    at_place : (es : List Happened) (k id tag : ℕ) → At es k (Issue id tag) → list_any (λ e. option_map_or (λ p. p.0 == id) (issues e) false) es ≡ true
    at_place [] k id tag h = absurd (cc)
    at_place (x ∷ es) zero id tag h =
        let is : Issue id tag ≡ x = cc in
        let P : Happened → Type 0 = λ e. (option_map_or (λ p. p.0 == id) (issues e) false || list_any (λ e. option_map_or (λ p. p.0 == id) (issues e) false) es) ≡ true in
        let there : P (Issue id tag) = or_left (id == id) _ (eq-eqb id id refl) in
        subst P is there
    at_place (x ∷ es) (suc k) id tag h = or_right (option_map_or (λ p. p.0 == id) (issues x) false) _ (at_place es k id tag h)

test_issue : (x : Happened) (id : ℕ) (o : Option (ℕ × ℕ)) → issues x ≡ o → option_map_or (λ p. p.0 == id) o false ≡ true → (tag : ℕ) × (x ≡ Issue id tag)
test_issue x id None none h = absurd (cc)
test_issue x id (Some p) is h = let same : p.0 ≡ id = eqb-true p.0 id h in (p.1, issue_is x p is ∙ ap (λ (n : ℕ). Issue n p.1) same)

pub was_is : (es : List Happened) (id : ℕ) → was_issued es id ≡ true → IsIssued es id
unfolding was_issued
was_is [] id h = absurd (cc)
was_is (x ∷ es) id h =
    elim (or_cases (option_map_or (λ p. p.0 == id) (issues x) false) (list_any (λ e. option_map_or (λ p. p.0 == id) (issues e) false) es) h) [
      | inl t ↦ let p = test_issue x id (issues x) refl t in (0, (p.0, ap Some p.1))
      | inr t ↦ let p = was_is es id t in (suc p.0, (p.1.0, p.1.1))
    ]

pub never_was : (es : List Happened) (id : ℕ) → (IsIssued es id → ⊥) → was_issued es id ≡ false
never_was es id h = false_from_ne_true _ (λ t. h (was_is es id t))

pub not_released : (es : List Happened) (id : ℕ) → (IsReleased es id → ⊥) → has_id (released_ids es) id ≡ false
not_released es id h = false_from_ne_true _ (λ t. h (has_released es id t))

pub not_issued : (es : List Happened) (id : ℕ) → (IsIssued es id → ⊥) → has_id (issued_ids es) id ≡ false
not_issued es id h = false_from_ne_true _ (λ t. h (has_issued es id t))

-- with one more event
pub has_released_more : (es : List Happened) (e : Happened) (id : ℕ) → has_id (released_ids (es ++ e ∷ [])) id ≡ (has_id (released_ids es) id || has_id (released_ids (e ∷ [])) id)
has_released_more es e id = ap (λ l. has_id l id) (released_more es (e ∷ [])) ∙ list_any-append (λ i. i == id) (released_ids es) (released_ids (e ∷ []))

pub has_issued_more : (es : List Happened) (e : Happened) (id : ℕ) → requeues e ≡ None → has_id (issued_ids (es ++ e ∷ [])) id ≡ (has_id (issued_ids es) id || has_id (new_ids e) id)
has_issued_more es e id h = ap (λ l. has_id l id) (issued_more es e h) ∙ list_any-append (λ i. i == id) (issued_ids es) (new_ids e)

-- an id that was issued was released
pub released_first : (setup : Setup) (es : List Happened) (id : ℕ) → IsLegalTrace setup es → IsIssued es id → IsReleased es id
released_first setup es id old p =
    let q = old.issue_released p.0 id p.1.0 p.1.1 in
    (q.0, (q.1.0, of_take p.0 es q.0 _ q.1.1))
