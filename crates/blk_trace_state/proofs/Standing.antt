-- What a state says of the events that left it, and each of its tests against the rule that it stands for.
use Rattle.std.proofs.Common.{◌≡◌, ◌<◌, ◌≤◌, ◌+◌, ◌-◌, ◌*◌, ◌++◌, ◌==◌, ◌∙◌, ◌∷◌, ◌↔◌, ◌⊎◌, ℕ, zero, suc, List, [], refl, sym, ap, subst, arith, inl, inr, cond, Bool, true, false, map, length, drop, eqb-true, eq-eqb, IsTrue, IfSome, count_by, nat_lt, nat_le, add-mul, zero-mul}
use Rattle.std.specs.Prelude.{◌&&◌, not, find, slice_get, is_some, Some, None}
use Rattle.std.specs.Option.{option_map_or}
use Rattle.std.specs.List.{list_any}
use Rattle.std.proofs.lemmas.Bool.{cases_Bool, or_cases, or_parts, or_from, and_parts, and_from, both_ways, not-true, not_from_false, false_from_ne_true, true_from_ne_false, leb-true, le-leb, ltb-true, lt-ltb}
use Rattle.std.proofs.lemmas.List.Sums.{sum_by-cons, sum_by_push}
use Rattle.blk_bio.specs.declared.rule.TraceRule.{TraceRule}
use Rattle.blk_bio.specs.declared.rule.TraceRule.TheVariants.{ReleasedTwice, Unknown, AlreadyIssued, BioTwice, Fit, TagRange, TagUsed, NotIssued, InFlight, TooLong, DepthRange}
use Rattle.blk_bio.specs.declared.request.Side.{Side}
use Rattle.blk_bio.specs.Bios.{Bio}
use Rattle.blk_bio.specs.Requests.{Fits}
use Rattle.blk_trace.specs.declared.trace.TheConstants.{MAX_EVENTS}
use Rattle.blk_trace.specs.declared.event.Event.TheVariants.{Tick, Release, Join, Issue, Done, Back, Depth}
use Rattle.blk_trace.specs.Happened.{Happened}
use Rattle.blk_trace.specs.Kinds.{ends, completes}
use Rattle.blk_trace.specs.Setups.{Setup}
use Rattle.blk_trace.specs.Events.{At, EndsAt, round_of, round_at, entered, request_of, IsReleased, IsIssued, AreRequeued, IsOpen, IsUsed, open_count}
use Rattle.blk_trace.specs.Meaning.{released_ids}
use Rattle.blk_trace.specs.Waits.{has_id}
use Rattle.blk_trace.specs.Legal.{IsLegalTrace}
use Rattle.blk_trace.specs.Rules.{Obeys, rank}
use Rattle.blk_trace.specs.Inside.Kept.{HasDepths}
use Rattle.blk_trace.proofs.Ids.{has_released, released_has}
use Rattle.blk_trace.proofs.Entering.{nothing}
use Rattle.blk_trace.proofs.More.{more_of}
use Rattle.blk_trace.proofs.Counting.{one_if}
use Rattle.blk_trace.proofs.Opening.{open_positive}
use Rattle.blk_trace.proofs.Room.{open_kept, open_issue, open_end, longer}
use Rattle.blk_trace.specs.declared.issued.Outcome.{Outcome}
use Rattle.blk_trace.specs.declared.issued.Outcome.TheVariants as outcome
use Rattle.blk_trace.specs.declared.issued.Issued.{Issued}
use Rattle.blk_trace.specs.Issues.{flies, was_requeued}
use Rattle.blk_trace.specs.Inside.Issues.{ended_by}
use Rattle.blk_trace_state.specs.State.{Entry, LayerState, has_completed, next_state, request_now, has_entry, has_issue, is_out, is_open, is_used, flying_now, done_now}
use Rattle.blk_trace_state.specs.Replay.{can_join, places_now, obeys}
use Rattle.blk_trace_state.specs.Laws.{entry_of}
use Rattle.blk_trace.specs.Issues.{outcome_of, issues_from}
use Rattle.blk_trace.proofs.Issues.{flies_on, still_flies}
use Rattle.blk_trace_state.proofs.Reading.{any_place, place_any}
use Rattle.blk_trace_state.proofs.Entering.{entries_of, released_in, entry_in, HasEntered, new_is, is_new, within_is, is_so_within, fits_is, is_so_fit}

-- the state is what the legal events left
pub record Stands (setup : Setup) (es : List Happened) (s : LayerState) : Type 0 where
  pub legal : IsLegalTrace setup es
  pub events_are : s.events ≡ length es
  pub round_is : s.round ≡ round_of es
  pub depths : HasDepths setup es s.depth s.next_depth
  pub entries_are : s.entries ≡ entries_of setup es
  pub issued_are : s.issued ≡ issues_from 0 es
  pub bios_are : HasEntered s (entered es)
  -- each command in flight was issued in the round that is on, and no two of them under one tag
  pub now : list_any (λ (i : Issued). flies i.outcome && not (i.round == s.round)) s.issued ≡ false
  pub once : (tag : ℕ) → count_by (λ (i : Issued). flies i.outcome && (tag == i.tag)) s.issued ≤ 1
  pub open_is : flying_now s ≡ open_count es
  pub done_is : done_now s ≡ count_by (λ (e : Happened). is_some (completes e)) es

-- ---- counts

pub count_first : (p : Issued → Bool) (x : Issued) (xs : List Issued) → count_by p (x ∷ xs) ≡ cond (p x) 1 0 + count_by p xs
count_first p x xs = sum_by-cons (λ (y : Issued). cond (p y) 1 0) x xs

pub count_last : (p : Issued → Bool) (xs : List Issued) (x : Issued) → count_by p (xs ++ x ∷ []) ≡ count_by p xs + cond (p x) 1 0
count_last p xs x = sum_by_push (λ (y : Issued). cond (p y) 1 0) xs x

one_yes : (b : Bool) → b ≡ true → one_if b ≡ 1
one_yes b h = ap one_if h

one_none : (b : Bool) → b ≡ false → one_if b ≡ 0
one_none b h = ap one_if h

pub some_count : (p : Issued → Bool) (xs : List Issued) → list_any p xs ≡ true → 0 < count_by p xs
some_count p [] h = absurd (cc)
some_count p (x ∷ xs) h =
    elim (or_cases (p x) (list_any p xs) h) [
      | inl t ↦ omega (arith, count_first p x xs, one_yes (p x) t)
      | inr t ↦ omega (arith, count_first p x xs, some_count p xs t)
    ]

pub none_count : (p : Issued → Bool) (xs : List Issued) → list_any p xs ≡ false → count_by p xs ≡ 0
none_count p [] h = refl
none_count p (x ∷ xs) h = let q = or_parts (p x) (list_any p xs) h in omega (arith, count_first p x xs, one_none (p x) q.0, none_count p xs q.1)

-- one that passes a test passes one of two others
pub any_either : (p q r : Issued → Bool) (xs : List Issued) → ((x : Issued) → p x ≡ true → (q x ≡ true) ⊎ (r x ≡ true)) → list_any q xs ≡ false → list_any r xs ≡ false → list_any p xs ≡ false
any_either p q r [] h a b = refl
any_either p q r (x ∷ xs) h a b =
    let u = or_parts (q x) (list_any q xs) a in
    let v = or_parts (r x) (list_any r xs) b in
    or_from (p x) (list_any p xs) (false_from_ne_true (p x) (λ t. elim (h x t) [ inl y ↦ both_ways _ u.0 y | inr y ↦ both_ways _ v.0 y ])) (any_either p q r xs h u.1 v.1)

-- ---- what the tests say

not_iff : {P : Type 0} (b : Bool) → (IsTrue b ↔ P) → IsTrue (not b) ↔ (P → ⊥)
not_iff b is = (λ t p. both_ways b (not-true b t) (is.1 p), λ none. not_from_false b (false_from_ne_true b (λ t. none (is.0 t))))

pub iff_not : {P : Type 0} (b : Bool) → (IsTrue (not b) ↔ P) → IsTrue b ↔ (P → ⊥)
iff_not b is = (λ t p. both_ways b (not-true b (is.1 p)) t, λ none. true_from_ne_false b (λ f. none (is.0 (not_from_false b f))))

pub released_test : (setup : Setup) (es : List Happened) (s : LayerState) → Stands setup es s → (id : ℕ) → IsTrue (has_entry s id) ↔ IsReleased es id
released_test setup es s st id =
    let same : has_entry s id ≡ has_id (released_ids es) id = ap (list_any (λ (r : Entry). r.id == id)) st.entries_are ∙ released_in setup es id in
    (λ t. has_released es id (sym same ∙ t), λ p. same ∙ released_has es p.0 id p.1.0 p.1.1)

pub issued_test : (setup : Setup) (es : List Happened) (s : LayerState) → Stands setup es s → (id : ℕ) → IsTrue (has_issue s id) ↔ IsIssued es id
issued_test setup es s st id =
    let p : Issued → Bool = λ i. i.id == id in
    let same : has_issue s id ≡ list_any p (issues_from 0 es) = ap (list_any p) st.issued_are in (
      λ t. let f = place_any p 0 es (sym same ∙ t) in (f.place, (f.tag, subst (λ x. At es f.place (Issue x f.tag)) (eqb-true f.id id f.passes) f.issued)),
      λ q. same ∙ any_place p 0 es q.0 id q.1.0 q.1.1 (eq-eqb id id refl),
    )

pub gone_test : (setup : Setup) (es : List Happened) (s : LayerState) → Stands setup es s → (id : ℕ) → IsTrue (not (is_out s id)) ↔ AreRequeued es id
gone_test setup es s st id =
    let p : Issued → Bool = λ i. (i.id == id) && not (was_requeued i.outcome) in
    let same : is_out s id ≡ list_any p (issues_from 0 es) = ap (list_any p) st.issued_are in (
      λ t k tag at.
          elim (cases_Bool (was_requeued (outcome_of tag (drop (suc k) es)))) [
            | inl b ↦ b
            | inr b ↦
                let stays : not (was_requeued (outcome_of tag (drop (suc k) es))) ≡ true = ap not b in
                let found : is_out s id ≡ true = same ∙ any_place p 0 es k id tag at (and_from (id == id) _ (eq-eqb id id refl) stays) in
                absurd (both_ways (is_out s id) (not-true (is_out s id) t) found)
          ],
      λ all. not_from_false (is_out s id) (false_from_ne_true (is_out s id) (λ t.
          let f = place_any p 0 es (sym same ∙ t) in
          let q = and_parts (f.id == id) (not (was_requeued (outcome_of f.tag (drop (suc f.place) es)))) f.passes in
          let at : At es f.place (Issue id f.tag) = subst (λ x. At es f.place (Issue x f.tag)) (eqb-true f.id id q.0) f.issued in
          both_ways _ (not-true _ q.1) (all f.place f.tag at))),
    )

-- ends after a place
nth_drop : (k : ℕ) (es : List Happened) (j : ℕ) → slice_get (drop k es) j ≡ slice_get es (k + j)
nth_drop zero es j = ap (λ n. slice_get es n) (let e : j ≡ 0 + j = omega arith in e)
nth_drop (suc k) [] j = refl
nth_drop (suc k) (x ∷ es) j = nth_drop k es j ∙ ap (λ n. slice_get (x ∷ es) n) (let e : suc (k + j) ≡ suc k + j = omega arith in e)

pub ends_later : (es : List Happened) (k j tag : ℕ) → EndsAt (drop (suc k) es) j tag → EndsAt es (suc k + j) tag
ends_later es k j tag d = (d.0, sym (nth_drop (suc k) es j) ∙ d.1, d.2)

pub ends_from : (es : List Happened) (k j tag : ℕ) → k < j → EndsAt es j tag → EndsAt (drop (suc k) es) (j - suc k) tag
ends_from es k j tag l d = (d.0, nth_drop (suc k) es (j - suc k) ∙ ap (λ n. slice_get es n) (let e : suc k + (j - suc k) ≡ j = omega arith in e) ∙ d.1, d.2)

pub open_test : (setup : Setup) (es : List Happened) (s : LayerState) → Stands setup es s → (tag : ℕ) → IsTrue (is_open s tag) ↔ IsOpen es tag
open_test setup es s st tag =
    let p : Issued → Bool = λ i. flies i.outcome && (tag == i.tag) in
    let same : is_open s tag ≡ list_any p (issues_from 0 es) = ap (list_any p) st.issued_are in (
      λ t.
          let f = place_any p 0 es (sym same ∙ t) in
          let q = and_parts (flies (outcome_of f.tag (drop (suc f.place) es))) (tag == f.tag) f.passes in
          let is : f.tag ≡ tag = sym (eqb-true tag f.tag q.1) in
          record {
            place = f.place;
            id = f.id;
            issued = subst (λ x. At es f.place (Issue f.id x)) is f.issued;
            not_done = λ j l d.
                still_flies f.tag (drop (suc f.place) es) q.0 (j - suc f.place) (ends_from es f.place j f.tag l (subst (λ x. EndsAt es j x) (sym is) d));
          },
      λ o. same ∙ any_place p 0 es o.place o.id tag o.issued (and_from _ (tag == tag) (flies_on tag (drop (suc o.place) es) (λ j d. o.not_done (suc o.place + j) (omega arith) (ends_later es o.place j tag d))) (eq-eqb tag tag refl)),
    )

pub used_test : (setup : Setup) (es : List Happened) (s : LayerState) → Stands setup es s → (tag : ℕ) → IsTrue (is_used s tag) ↔ IsUsed es tag
used_test setup es s st tag =
    let p : Issued → Bool = λ i. (i.round == s.round) && (tag == i.tag) in
    let same : is_used s tag ≡ list_any p (issues_from 0 es) = ap (list_any p) st.issued_are in (
      λ t.
          let f = place_any p 0 es (sym same ∙ t) in
          let q = and_parts (0 + round_at es f.place == s.round) (tag == f.tag) f.passes in
          record {
            place = f.place;
            id = f.id;
            issued = subst (λ x. At es f.place (Issue f.id x)) (sym (eqb-true tag f.tag q.1)) f.issued;
            now = omega (arith, eqb-true (0 + round_at es f.place) s.round q.0, st.round_is);
          },
      λ u. same ∙ any_place p 0 es u.place u.id tag u.issued (and_from _ (tag == tag) (eq-eqb (0 + round_at es u.place) s.round (omega (arith, u.now, st.round_is))) (eq-eqb tag tag refl)),
    )

-- none is in flight
pub none_flies : (s : LayerState) → (flying_now s == 0) ≡ true → list_any (λ (i : Issued). flies i.outcome) s.issued ≡ false
none_flies s h =
    false_from_ne_true _ (λ t. absurd (omega (arith, eqb-true (flying_now s) 0 h, some_count (λ (i : Issued). flies i.outcome) s.issued t)))

pub closed_test : (setup : Setup) (es : List Happened) (s : LayerState) → Stands setup es s → IsTrue (flying_now s == 0) ↔ ((tag : ℕ) → IsOpen es tag → ⊥)
closed_test setup es s st =
    let p : Issued → Bool = λ i. flies i.outcome in (
      λ t tag o. absurd (omega (arith, eqb-true (flying_now s) 0 t, open_positive setup es tag st.legal o, st.open_is)),
      λ none.
          eq-eqb (flying_now s) 0 (none_count p s.issued (false_from_ne_true _ (λ t.
          let f = place_any p 0 es (sym (ap (list_any p) st.issued_are) ∙ t) in
          none f.tag record { place = f.place; id = f.id; issued = f.issued; not_done = λ j l d. still_flies f.tag (drop (suc f.place) es) f.passes (j - suc f.place) (ends_from es f.place j f.tag l d) }))),
    )

found_bios : (b : Bool) (r : Entry) → option_map_or (λ (x : Entry). x.bios) (cond b (Some r) None) [] ≡ cond b r.bios []
found_bios true r = refl
found_bios false r = refl

-- the request of an id, also where none was released
pub bios_of_id : (setup : Setup) (es : List Happened) (s : LayerState) → Stands setup es s → (id : ℕ) → request_now s id ≡ request_of es id
bios_of_id setup es s st id =
    let there : request_now s id ≡ cond (has_id (released_ids es) id) (request_of es id) [] =
    ap (λ l. option_map_or (λ (x : Entry). x.bios) (find (λ (r : Entry). r.id == id) l) []) st.entries_are
    ∙ ap (λ o. option_map_or (λ (x : Entry). x.bios) o []) (entry_in setup es id)
    ∙ found_bios (has_id (released_ids es) id) (entry_of setup es id) in
    elim (cases_Bool (has_id (released_ids es) id)) [
      | inl t ↦ there ∙ ap (λ b. cond b (request_of es id) []) t
      | inr t ↦ there ∙ ap (λ b. cond b (request_of es id) []) t ∙ sym (nothing setup es id st.legal t).request
    ]

fit_test : (setup : Setup) (es : List Happened) (s : LayerState) → Stands setup es s → (id : ℕ) (q : List Bio) → IsTrue (can_join setup.limits (request_now s id) q) ↔ ((side : Side) × Fits setup.limits (request_of es id) q side)
fit_test setup es s st id q =
    let same = bios_of_id setup es s st id in (
      λ t. fits_is setup.limits (request_of es id) q (subst (λ l. can_join setup.limits l q ≡ true) same t),
      λ f. subst (λ l. can_join setup.limits l q ≡ true) (sym same) (is_so_fit setup.limits (request_of es id) q f.0 f.1),
    )

-- ---- how many commands are in flight with one more event

-- one that has ended is not in flight, and one that is did not change
pub stays : (t : ℕ) (n : Outcome) (i : Issued) → flies n ≡ false → flies (ended_by t n i).outcome ≡ true → ended_by t n i ≡ i
stays t n i none h = by (flies i.outcome && (t == i.tag)) h
  where
    by : (b : Bool) → flies (cond b (let x : Issued = record { round = i.round; id = i.id; tag = i.tag; outcome = n } in x) i).outcome ≡ true → cond b (let x : Issued = record { round = i.round; id = i.id; tag = i.tag; outcome = n } in x) i ≡ i
    by true f = absurd (both_ways _ none f)
    by false f = refl

one_ended : (i : Issued) (n : Outcome) (d f : Bool) → flies n ≡ false → flies i.outcome ≡ f → cond (flies (cond (f && d) (let x : Issued = record { round = i.round; id = i.id; tag = i.tag; outcome = n } in x) i).outcome) 1 0 + cond (f && d) 1 0 ≡ cond f 1 0
one_ended i n true true none is = omega (arith, one_none (flies n) none)
one_ended i n false true none is = omega (arith, one_yes (flies i.outcome) is)
one_ended i n d false none is = omega (arith, one_none (flies i.outcome) is)

pub count_ended : (t : ℕ) (n : Outcome) (xs : List Issued) → flies n ≡ false → count_by (λ (i : Issued). flies i.outcome) (map (ended_by t n) xs) + count_by (λ (i : Issued). flies i.outcome && (t == i.tag)) xs ≡ count_by (λ (i : Issued). flies i.outcome) xs
count_ended t n [] none = refl
count_ended t n (x ∷ xs) none =
    omega (
      arith,
      count_first (λ (i : Issued). flies i.outcome) (ended_by t n x) (map (ended_by t n) xs),
      count_first (λ (i : Issued). flies i.outcome && (t == i.tag)) x xs,
      count_first (λ (i : Issued). flies i.outcome) x xs,
      one_ended x n (t == x.tag) (flies x.outcome) none refl,
      count_ended t n xs none,
    )

one_open : (setup : Setup) (es : List Happened) (s : LayerState) → Stands setup es s → (t : ℕ) → IsOpen es t → count_by (λ (i : Issued). flies i.outcome && (t == i.tag)) s.issued ≡ 1
one_open setup es s st t o = omega (arith, st.once t, some_count (λ (i : Issued). flies i.outcome && (t == i.tag)) s.issued ((open_test setup es s st t).1 o))

flying_end : (setup : Setup) (es : List Happened) (s : LayerState) → Stands setup es s → (e : Happened) (t : ℕ) (n : Outcome) → flies n ≡ false → ends e ≡ Some t → IsOpen es t → count_by (λ (i : Issued). flies i.outcome) (map (ended_by t n) s.issued) ≡ open_count (es ++ e ∷ [])
flying_end setup es s st e t n none end o =
    omega (arith, count_ended t n s.issued none, one_open setup es s st t o, st.open_is, open_end es e t end)

-- how many have completed
then_done : (i : Issued) (n : Outcome) (d f : Bool) → flies i.outcome ≡ f → one_if (has_completed (cond (f && d) (let x : Issued = record { round = i.round; id = i.id; tag = i.tag; outcome = n } in x) i).outcome) ≡ one_if (has_completed i.outcome) + cond (f && d) (one_if (has_completed n)) 0
then_done i n true true is = omega (arith, one_none (has_completed i.outcome) (not_done_yet i.outcome is))
  where
    not_done_yet : (s : Outcome) → flies s ≡ true → has_completed s ≡ false
    not_done_yet outcome.Flying h = refl
    not_done_yet outcome.Done h = absurd (cc)
    not_done_yet outcome.Back h = refl
then_done i n false true is = omega arith
then_done i n d false is = omega arith

one_or : (b : Bool) (n : ℕ) → cond b n 0 ≡ one_if b * n
one_or true n = omega arith
one_or false n = omega arith

pub done_ended : (t : ℕ) (n : Outcome) (xs : List Issued) → count_by (λ (i : Issued). has_completed i.outcome) (map (ended_by t n) xs) ≡ count_by (λ (i : Issued). has_completed i.outcome) xs + count_by (λ (i : Issued). flies i.outcome && (t == i.tag)) xs * one_if (has_completed n)
done_ended t n [] = omega (arith, zero-mul (one_if (has_completed n)))
done_ended t n (x ∷ xs) =
    let under : ℕ = count_by (λ (i : Issued). flies i.outcome && (t == i.tag)) xs in
    let here : ℕ = one_if (flies x.outcome && (t == x.tag)) in
    let apart : (here + under) * one_if (has_completed n) ≡ here * one_if (has_completed n) + under * one_if (has_completed n) = add-mul here under (one_if (has_completed n)) in
    let all : count_by (λ (i : Issued). flies i.outcome && (t == i.tag)) (x ∷ xs) * one_if (has_completed n) ≡ (here + under) * one_if (has_completed n) = ap (λ k. k * one_if (has_completed n)) (count_first (λ (i : Issued). flies i.outcome && (t == i.tag)) x xs) in
    omega (
      arith,
      count_first (λ (i : Issued). has_completed i.outcome) (ended_by t n x) (map (ended_by t n) xs),
      count_first (λ (i : Issued). has_completed i.outcome) x xs,
      then_done x n (t == x.tag) (flies x.outcome) refl,
      one_or (flies x.outcome && (t == x.tag)) (one_if (has_completed n)),
      done_ended t n xs,
    )

-- one more event, unless it ends what is not open, leaves as many commands in flight as there are open Issues
pub flying_more : (setup : Setup) (es : List Happened) (s : LayerState) → Stands setup es s → (e : Happened) → IfSome (ends e) (IsOpen es) → flying_now (next_state setup s e) ≡ open_count (es ++ e ∷ [])
flying_more setup es s st Tick o = st.open_is ∙ sym (open_kept es Tick refl refl)
flying_more setup es s st (Release id q) o = st.open_is ∙ sym (open_kept es (Release id q) refl refl)
flying_more setup es s st (Join id q) o = st.open_is ∙ sym (open_kept es (Join id q) refl refl)
flying_more setup es s st (Issue id tag) o =
    omega (arith, count_last (λ (i : Issued). flies i.outcome) s.issued (record { round = s.round; id = id; tag = tag; outcome = outcome.Flying }), st.open_is, open_issue setup es id tag st.legal)
flying_more setup es s st (Done tag) o = flying_end setup es s st (Done tag) tag outcome.Done refl refl o
flying_more setup es s st (Back tag) o = flying_end setup es s st (Back tag) tag outcome.Back refl refl o
flying_more setup es s st (Depth depth) o = st.open_is ∙ sym (open_kept es (Depth depth) refl refl)

-- and as many have completed as there are Dones
done_kept : (setup : Setup) (es : List Happened) (s : LayerState) → Stands setup es s → (e : Happened) → completes e ≡ None → done_now s ≡ count_by (λ (x : Happened). is_some (completes x)) (es ++ e ∷ [])
done_kept setup es s st e h = omega (arith, st.done_is, more_of (λ (x : Happened). is_some (completes x)) es e, ap (λ o. one_if (is_some o)) h)

pub done_more : (setup : Setup) (es : List Happened) (s : LayerState) → Stands setup es s → (e : Happened) → IfSome (ends e) (IsOpen es) → done_now (next_state setup s e) ≡ count_by (λ (x : Happened). is_some (completes x)) (es ++ e ∷ [])
done_more setup es s st Tick o = done_kept setup es s st Tick refl
done_more setup es s st (Release id q) o = done_kept setup es s st (Release id q) refl
done_more setup es s st (Join id q) o = done_kept setup es s st (Join id q) refl
done_more setup es s st (Issue id tag) o =
    omega (arith, count_last (λ (i : Issued). has_completed i.outcome) s.issued (record { round = s.round; id = id; tag = tag; outcome = outcome.Flying }), done_kept setup es s st (Issue id tag) refl)
done_more setup es s st (Done tag) o =
    omega (arith, done_ended tag outcome.Done s.issued, one_open setup es s st tag o, st.done_is, more_of (λ (x : Happened). is_some (completes x)) es (Done tag))
done_more setup es s st (Back tag) o =
    omega (arith, done_ended tag outcome.Back s.issued, one_open setup es s st tag o, done_kept setup es s st (Back tag) refl)
done_more setup es s st (Depth depth) o = done_kept setup es s st (Depth depth) refl

long_test : (n m most : ℕ) → n ≡ m → IsTrue (nat_le n most) ↔ (m ≤ most)
long_test n m most is = (λ t. omega (arith, leb-true n most t), λ h. le-leb n most (omega arith))

places_test : (setup : Setup) (es : List Happened) (s : LayerState) → Stands setup es s → (e : Happened) → IfSome (ends e) (IsOpen es) → IsTrue (nat_le (places_now (next_state setup s e)) MAX_EVENTS) ↔ (length (es ++ e ∷ []) + open_count (es ++ e ∷ []) ≤ MAX_EVENTS)
places_test setup es s st e o =
    long_test (places_now (next_state setup s e)) (length (es ++ e ∷ []) + open_count (es ++ e ∷ [])) MAX_EVENTS (omega (arith, flying_more setup es s st e o, st.events_are, longer es e))

depth_test : (depth most : ℕ) → IsTrue (nat_lt 0 depth && nat_le depth most) ↔ ((0 < depth) × (depth ≤ most))
depth_test depth most = (λ t. let p = and_parts (nat_lt 0 depth) (nat_le depth most) t in (ltb-true 0 depth p.0, leb-true depth most p.1), λ h. and_from (nat_lt 0 depth) (nat_le depth most) (lt-ltb 0 depth h.0) (le-leb depth most h.1))

-- the event obeys the rule by the state exactly where it does after the events, if it obeys the rules before that one
pub told : (setup : Setup) (es : List Happened) (s : LayerState) → Stands setup es s → (e : Happened) (r : TraceRule) → ((q : TraceRule) → rank q < rank r → Obeys setup es e q) → IsTrue (obeys setup s e r) ↔ Obeys setup es e r
unfolding obeys
told setup es s st (Release id q) ReleasedTwice lower = not_iff (has_entry s id) (released_test setup es s st id)
told setup es s st (Join id q) Unknown lower = released_test setup es s st id
told setup es s st (Issue id tag) Unknown lower = released_test setup es s st id
told setup es s st (Join id q) AlreadyIssued lower = not_iff (has_issue s id) (issued_test setup es s st id)
told setup es s st (Issue id tag) AlreadyIssued lower = gone_test setup es s st id
told setup es s st (Release id q) BioTwice lower = (new_is s (entered es) q st.bios_are st.legal.bios_once, is_new s (entered es) q st.bios_are)
told setup es s st (Join id q) BioTwice lower = (new_is s (entered es) q st.bios_are st.legal.bios_once, is_new s (entered es) q st.bios_are)
told setup es s st (Release id q) Fit lower = (within_is setup.limits q, is_so_within setup.limits q)
told setup es s st (Join id q) Fit lower = fit_test setup es s st id q
told setup es s st (Issue id tag) TagRange lower =
    (λ t. omega (arith, ltb-true tag s.depth t, st.depths.now_is), λ h. lt-ltb tag s.depth (omega (arith, h, st.depths.now_is)))
told setup es s st (Issue id tag) TagUsed lower = not_iff (is_used s tag) (used_test setup es s st tag)
told setup es s st (Done tag) NotIssued lower = open_test setup es s st tag
told setup es s st (Back tag) NotIssued lower = open_test setup es s st tag
told setup es s st Tick InFlight lower = closed_test setup es s st
told setup es s st (Depth depth) DepthRange lower = depth_test depth setup.depth
told setup es s st e TooLong lower = places_test setup es s st e (lower NotIssued (omega arith))
told setup es s st e rule lower = (λ _. tt, λ _. refl)
