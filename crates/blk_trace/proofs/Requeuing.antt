-- What a Back changes: the one open Issue of its tag is no longer among those that were not requeued.
use Rattle.std.proofs.Common.{◌≡◌, ◌≤◌, ◌+◌, ◌++◌, ◌==◌, ℕ, zero, suc, List, [], ◌∷◌, length, map, take, drop, set, refl, sym, ◌∙◌, ap, subst, arith, inl, inr, Some, cond, Bool, true, false, eq-eqb, ne_eqb, eqb-true, append-nil}
use Rattle.std.specs.Prelude.{◌||◌, ◌&&◌, not, slice_get, count_by}
use Rattle.std.proofs.lemmas.List.{length-map, map-append}
use Rattle.std.proofs.lemmas.List.Sums.{sum_by-append}
use Rattle.std.proofs.lemmas.List.Folds.{list_any-append}
use Rattle.std.proofs.lemmas.Bool.{cases_Bool, or_left, or_right, or_parts, and_parts, and_from}
use Rattle.blk_bio.specs.declared.rule.TraceRule.TheVariants.{AlreadyIssued, NotIssued}
use Rattle.blk_trace.specs.declared.issued.Outcome.{Outcome}
use Rattle.blk_trace.specs.declared.issued.Outcome.TheVariants as outcome
use Rattle.blk_trace.specs.declared.issued.Outcome.TheVariants.{Flying}
use Rattle.blk_trace.specs.declared.issued.Issued.{Issued}
use Rattle.blk_trace.specs.Happened.{Happened, Issue, Back}
use Rattle.blk_trace.specs.Setups.{Setup}
use Rattle.blk_trace.specs.Events.{round_of, IsOpen, IsOpenBy}
use Rattle.blk_trace.specs.Kinds.{ends}
use Rattle.blk_trace.specs.Issues.{end_of, issues_from, issues_of, flies, was_requeued, kept_of}
use Rattle.blk_trace.specs.Legal.{IsLegalTrace}
use Rattle.blk_trace.specs.Rules.{BreaksNoRule}
use Rattle.blk_trace.specs.Meaning.{round_and_id, served, issued_ids, rounds_of}
use Rattle.blk_trace.specs.Waits.{has_id}
use Rattle.blk_trace.specs.Inside.Issues.{ended_by}
use Rattle.blk_trace.specs.Inside.Kept.{IsFlyingAt}
use Rattle.blk_trace.proofs.Words.{only_ends}
use Rattle.blk_trace.proofs.Issues.{issues_ended, flying_is, flying_place, set_ended, with_outcome}
use Rattle.blk_trace.proofs.Served.{kept_pairs, kept_append, issued_more}
use Rattle.blk_trace.proofs.Ids.{by_legal, all_back}
pub use Rattle.blk_trace.proofs.TagUses.{open_by}
use Rattle.blk_trace.proofs.Steady.{AreSteady, steady}
use Rattle.blk_trace.proofs.Counting.{one_if, count-cons, count_push}

-- a list at a place, and with another element there
split_get : {X : Type 0} (xs : List X) (k : ℕ) (x : X) → slice_get xs k ≡ Some x → xs ≡ take k xs ++ x ∷ drop (suc k) xs
split_get [] k x h = absurd (cc)
split_get (z ∷ xs) zero x h = let same : z ≡ x = cc in ap (λ w. w ∷ xs) same
split_get (z ∷ xs) (suc k) x h = ap (λ l. z ∷ l) (split_get xs k x h)

split_set : {X : Type 0} (xs : List X) (k : ℕ) (x y : X) → slice_get xs k ≡ Some x → set xs k y ≡ take k xs ++ y ∷ drop (suc k) xs
split_set [] k x y h = absurd (cc)
split_set (z ∷ xs) zero x y h = refl
split_set (z ∷ xs) (suc k) x y h = ap (λ l. z ∷ l) (split_set xs k x y h)

-- a list of Issues, and the same where the one in flight of the id came to this end
pub record EndsOne (xs ys : List Issued) (id : ℕ) (n : Outcome) : Type 0 where
  pub before : List Issued
  pub after : List Issued
  pub issue : Issued
  pub named : issue.id ≡ id
  pub flying : issue.outcome ≡ Flying
  pub whole : xs ≡ before ++ issue ∷ after
  pub now : ys ≡ before ++ with_outcome issue n ∷ after

one_of : (t place : ℕ) (n : Outcome) (xs : List Issued) (i : Issued) → slice_get xs place ≡ Some i → i.outcome ≡ Flying → t ≡ i.tag → (now : ℕ) → AreSteady xs now → EndsOne xs (map (ended_by t n) xs) i.id n
one_of t place n xs i at flying under now s =
    let here : (flies i.outcome && (t == i.tag)) ≡ true = and_from (flies i.outcome) (t == i.tag) (ap flies flying) (eq-eqb t i.tag under) in
    let only : (k : ℕ) (j : Issued) → slice_get xs k ≡ Some j → (flies j.outcome && (t == j.tag)) ≡ true → k ≡ place = λ k j there b.
    let both = and_parts (flies j.outcome) (t == j.tag) b in
    s.once k place j i there at (s.flies k j there (flying_is j.outcome both.0) ∙ sym (s.flies place i at flying)) (sym (eqb-true t j.tag both.1) ∙ under) in
    record {
      before = take place xs;
      after = drop (suc place) xs;
      issue = i;
      named = refl;
      flying = flying;
      whole = split_get xs place i at;
      now = sym (set_ended t n xs place i at here only) ∙ split_set xs place i (with_outcome i n) at;
    }

pub ends_one : (setup : Setup) (es : List Happened) (e : Happened) (t id : ℕ) → IsLegalTrace setup es → IsOpenBy es t id → ends e ≡ Some t → EndsOne (issues_of es) (issues_of (es ++ e ∷ [])) id (end_of e)
ends_one setup es e t id legal o end =
    let p = flying_place es t id o in
    let f : IsFlyingAt (issues_of es) p.0 t = p.1.0 in
    subst (λ l. EndsOne (issues_of es) l id (end_of e)) (sym (issues_ended 0 t es e end (only_ends e t end).no_issue))
    (subst (λ n. EndsOne (issues_of es) (map (ended_by t (end_of e)) (issues_of es)) n (end_of e)) p.1.1 (one_of t p.0 (end_of e) (issues_of es) f.issue f.there f.flies (sym f.under) (round_of es) (steady setup es legal)))

-- one list without an entry of the id of the other
pub record IsTakenOut (id : ℕ) (xs ys : List (ℕ × ℕ)) : Type 0 where
  pub before : List (ℕ × ℕ)
  pub after : List (ℕ × ℕ)
  pub round : ℕ
  pub whole : xs ≡ before ++ (round, id) ∷ after
  pub left : ys ≡ before ++ after

taken_out : (xs ys : List Issued) (id : ℕ) → EndsOne xs ys id outcome.Back → IsTakenOut id (kept_pairs xs) (kept_pairs ys)
taken_out xs ys id p =
    let i : Issued = p.issue in
    let stays : kept_pairs (i ∷ p.after) ≡ (i.round, id) ∷ kept_pairs p.after =
    ap (λ o. map round_and_id (cond (not (was_requeued o)) (i ∷ kept_of p.after) (kept_of p.after))) p.flying ∙ ap (λ (n : ℕ). (i.round, n) ∷ kept_pairs p.after) p.named in
    record {
      before = kept_pairs p.before;
      after = kept_pairs p.after;
      round = i.round;
      whole = ap kept_pairs p.whole ∙ kept_append p.before (i ∷ p.after) ∙ ap (λ l. kept_pairs p.before ++ l) stays;
      left = ap kept_pairs p.now ∙ kept_append p.before (with_outcome i outcome.Back ∷ p.after);
    }

one_out : (setup : Setup) (es : List Happened) (t id : ℕ) → IsLegalTrace setup es → IsOpenBy es t id → IsTakenOut id (served 0 es) (served 0 (es ++ Back t ∷ []))
unfolding served
one_out setup es t id legal o = taken_out (issues_of es) (issues_of (es ++ Back t ∷ [])) id (ends_one setup es (Back t) t id legal o refl)

-- the lists of ids and of rounds before and after a Back: its last Issue is lost
pub record LosesIssue (es fs : List Happened) (id : ℕ) : Type 0 where
  pub ids_before : List ℕ
  pub ids_after : List ℕ
  pub rounds_before : List ℕ
  pub rounds_after : List ℕ
  pub round : ℕ
  pub ids_were : issued_ids es ≡ ids_before ++ id ∷ ids_after
  pub ids_are : issued_ids fs ≡ ids_before ++ ids_after
  pub rounds_were : rounds_of es ≡ rounds_before ++ round ∷ rounds_after
  pub rounds_are : rounds_of fs ≡ rounds_before ++ rounds_after
  pub even : length rounds_before ≡ length ids_before

requeued_from : (es fs : List Happened) (id : ℕ) → IsTakenOut id (served 0 es) (served 0 fs) → LosesIssue es fs id
unfolding issued_ids rounds_of
requeued_from es fs id p =
    record {
      ids_before = map (λ (s : ℕ × ℕ). s.1) p.before;
      ids_after = map (λ (s : ℕ × ℕ). s.1) p.after;
      rounds_before = map (λ (s : ℕ × ℕ). s.0) p.before;
      rounds_after = map (λ (s : ℕ × ℕ). s.0) p.after;
      round = p.round;
      ids_were = ap (map (λ (s : ℕ × ℕ). s.1)) p.whole ∙ map-append (λ (s : ℕ × ℕ). s.1) p.before ((p.round, id) ∷ p.after);
      ids_are = ap (map (λ (s : ℕ × ℕ). s.1)) p.left ∙ map-append (λ (s : ℕ × ℕ). s.1) p.before p.after;
      rounds_were = ap (map (λ (s : ℕ × ℕ). s.0)) p.whole ∙ map-append (λ (s : ℕ × ℕ). s.0) p.before ((p.round, id) ∷ p.after);
      rounds_are = ap (map (λ (s : ℕ × ℕ). s.0)) p.left ∙ map-append (λ (s : ℕ × ℕ). s.0) p.before p.after;
      even = length-map p.before (λ (s : ℕ × ℕ). s.0) ∙ sym (length-map p.before (λ (s : ℕ × ℕ). s.1));
    }

pub requeued : (setup : Setup) (es : List Happened) (t id : ℕ) → IsLegalTrace setup es → IsOpenBy es t id → LosesIssue es (es ++ Back t ∷ []) id
requeued setup es t id legal o = requeued_from es (es ++ Back t ∷ []) id (one_out setup es t id legal o)

-- an id stands once among those that were not requeued
count_append : (p : ℕ → Bool) (xs ys : List ℕ) → count_by p (xs ++ ys) ≡ count_by p xs + count_by p ys
count_append p xs ys = sum_by-append (λ (x : ℕ). cond (p x) 1 0) xs ys

flip : (q i : ℕ) → (q == i) ≡ (i == q)
flip q i = elim (cases_Bool (q == i)) [
  | inl t ↦ t ∙ sym (eq-eqb i q (sym (eqb-true q i t)))
  | inr f ↦ f ∙ sym (ne_eqb i q (λ e. let t : (q == i) ≡ true = eq-eqb q i (sym e) in absurd (cc)))
]

uncounted : (u : ℕ) (xs : List ℕ) → has_id xs u ≡ false → count_by (λ x. u == x) xs ≡ 0
uncounted u [] h = refl
uncounted u (x ∷ xs) h =
    let parts = or_parts (x == u) (has_id xs u) h in
    let none : one_if (u == x) ≡ 0 = ap one_if (flip u x ∙ parts.0) in
    omega (arith, count-cons (λ y. u == y) x xs, uncounted u xs parts.1)

pub absent : (u : ℕ) (xs : List ℕ) → count_by (λ x. u == x) xs ≡ 0 → has_id xs u ≡ false
absent u [] h = refl
absent u (x ∷ xs) h =
    let c = count-cons (λ y. u == y) x xs in
    elim (cases_Bool (u == x)) [
      | inl t ↦ let one : one_if (u == x) ≡ 1 = ap one_if t in absurd (omega arith)
      | inr f ↦ ap (λ b. b || has_id xs u) (flip x u ∙ f) ∙ absent u xs (omega arith)
    ]

AreDistinct : List ℕ → Type 0
AreDistinct xs = (u : ℕ) → count_by (λ x. u == x) xs ≤ 1

distinct_push : (xs : List ℕ) (i : ℕ) → has_id xs i ≡ false → AreDistinct xs → AreDistinct (xs ++ i ∷ [])
unfolding AreDistinct
distinct_push xs i fresh old u =
    let push = count_push (λ x. u == x) xs i in
    elim (cases_Bool (u == i)) [
      | inl b ↦
          let same : u ≡ i = eqb-true u i b in
          let none : count_by (λ x. u == x) xs ≡ 0 = uncounted u xs (subst (λ n. has_id xs n ≡ false) (sym same) fresh) in
          let one : one_if (u == i) ≡ 1 = ap one_if b in
          omega arith
      | inr b ↦
          let none : one_if (u == i) ≡ 0 = ap one_if b in
          omega (arith, old u)
    ]

distinct_out : (xs ys : List ℕ) (i : ℕ) → AreDistinct (xs ++ i ∷ ys) → AreDistinct (xs ++ ys)
unfolding AreDistinct
distinct_out xs ys i old u = omega (arith, old u, count_append (λ x. u == x) xs (i ∷ ys), count_append (λ x. u == x) xs ys, count-cons (λ x. u == x) i ys)

distinct_step : (setup : Setup) (es : List Happened) (e : Happened) → IsLegalTrace setup es → BreaksNoRule setup es e → AreDistinct (issued_ids es) → AreDistinct (issued_ids (es ++ e ∷ []))
distinct_step setup es (Issue i t) old all ih =
    subst AreDistinct (sym (issued_more es (Issue i t) refl)) (distinct_push (issued_ids es) i (all_back es i (all AlreadyIssued)) ih)
distinct_step setup es (Back t) old all ih =
    let o : IsOpen es t = all NotIssued in
    let p : LosesIssue es (es ++ Back t ∷ []) o.id = requeued setup es t o.id old (open_by es t o) in
    subst AreDistinct (sym p.ids_are) (distinct_out p.ids_before p.ids_after o.id (subst AreDistinct p.ids_were ih))
distinct_step setup es e old all ih = subst AreDistinct (sym (issued_more es e refl ∙ append-nil (issued_ids es))) ih

pub distinct : (setup : Setup) (es : List Happened) → IsLegalTrace setup es → (u : ℕ) → count_by (λ x. u == x) (issued_ids es) ≤ 1
unfolding AreDistinct issued_ids served issues_from
distinct setup es legal = by_legal setup (λ l. AreDistinct (issued_ids l)) (λ u. omega arith) (λ l e new old all ih. distinct_step setup l e old all ih) es legal

-- the id is there before the Back and not after it; others stay
pub record IsOut (xs ys : List ℕ) (id : ℕ) : Type 0 where
  pub was : has_id xs id ≡ true
  pub gone : has_id ys id ≡ false
  pub other : (q : ℕ) → (id == q) ≡ false → has_id ys q ≡ has_id xs q

has_append : (xs ys : List ℕ) (q : ℕ) → has_id (xs ++ ys) q ≡ (has_id xs q || has_id ys q)
has_append xs ys q = list_any-append (λ i. i == q) xs ys

out_of : (xs ys : List ℕ) (id : ℕ) → count_by (λ x. id == x) (xs ++ id ∷ ys) ≤ 1 → IsOut (xs ++ id ∷ ys) (xs ++ ys) id
out_of xs ys id few =
    let one : one_if (id == id) ≡ 1 = ap one_if (eq-eqb id id refl) in
    let none : count_by (λ x. id == x) (xs ++ ys) ≡ 0 = omega (arith, few, count_append (λ x. id == x) xs (id ∷ ys), count_append (λ x. id == x) xs ys, count-cons (λ x. id == x) id ys) in
    record {
      was = has_append xs (id ∷ ys) id ∙ or_right (has_id xs id) ((id == id) || has_id ys id) (or_left (id == id) (has_id ys id) (eq-eqb id id refl));
      gone = absent id (xs ++ ys) none;
      other = λ q b. has_append xs ys q ∙ ap (λ c. has_id xs q || (c || has_id ys q)) (sym b) ∙ sym (has_append xs (id ∷ ys) q);
    }

pub requeued_ids : (setup : Setup) (es : List Happened) (t id : ℕ) → IsLegalTrace setup es → IsOpenBy es t id → IsOut (issued_ids es) (issued_ids (es ++ Back t ∷ [])) id
requeued_ids setup es t id legal o =
    let p : LosesIssue es (es ++ Back t ∷ []) id = requeued setup es t id legal o in
    let few : count_by (λ x. id == x) (p.ids_before ++ id ∷ p.ids_after) ≤ 1 = subst (λ l. count_by (λ x. id == x) l ≤ 1) p.ids_were (distinct setup es legal id) in
    let out : IsOut (p.ids_before ++ id ∷ p.ids_after) (p.ids_before ++ p.ids_after) id = out_of p.ids_before p.ids_after id few in
    subst (λ l. IsOut l (issued_ids (es ++ Back t ∷ [])) id) (sym p.ids_were) (subst (λ l. IsOut (p.ids_before ++ id ∷ p.ids_after) l id) (sym p.ids_are) out)
