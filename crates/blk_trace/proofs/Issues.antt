-- The Issues of a list of events, with one more event, and what each says of the events.
use Rattle.std.proofs.Common.{◌≡◌, ◌≤◌, ◌<◌, ◌+◌, ◌-◌, ◌++◌, ◌==◌, ◌∙◌, ◌∷◌, ℕ, zero, suc, List, [], length, refl, sym, ap, subst, arith, inl, inr, cond, Bool, true, false, map, take, drop, get_or, set, eqb-true, eq-eqb}
use Rattle.std.specs.Prelude.{◌&&◌, is_some, slice_get, Option, Some, None, option_map}
use Rattle.std.specs.Option.{option_map_or}
use Rattle.std.specs.List.{cons_option, filter_map}
use Rattle.std.proofs.lemmas.List.{take_more}
use Rattle.std.proofs.lemmas.Option.{slice_get-get_or}
use Rattle.std.proofs.lemmas.List.Elements.{filter_map-append}
use Rattle.std.proofs.lemmas.Bool.{cases_Bool}
use Rattle.blk_trace.specs.declared.issued.Outcome.{Outcome}
use Rattle.blk_trace.specs.declared.issued.Outcome.TheVariants.{Flying, Done, Back}
use Rattle.blk_trace.specs.declared.issued.Issued.{Issued}
use Rattle.blk_trace.specs.declared.event.Event.TheVariants.{Issue}
use Rattle.blk_trace.specs.Happened.{Happened}
use Rattle.blk_trace.specs.Kinds.{is_tick, issues, ends, requeues, is_done_of}
use Rattle.blk_trace.specs.Events.{At, EndsAt, round_of, round_at, IsIssued, IsOpenBy}
use Rattle.blk_trace.specs.Issues.{end_of, outcome_of, issue_in, issues_from, issues_of, flies}
use Rattle.blk_trace.specs.Inside.Issues.{ended_by}
use Rattle.blk_trace.specs.Inside.Kept.{IsFlyingAt}
use Rattle.blk_trace.proofs.Words.{done_by, done_by_none, issue_is}
use Rattle.blk_trace.proofs.More.{round_cons}

-- ---- with one more event

prepend : {X : Type 0} (o : Option X) (xs ys : List X) → cons_option o (xs ++ ys) ≡ cons_option o xs ++ ys
prepend None xs ys = refl
prepend (Some x) xs ys = refl

map_part : {X Y : Type 0} (f : X → Y) (o : Option X) (xs : List X) → map f (cons_option o xs) ≡ cons_option (option_map f o) (map f xs)
map_part f None xs = refl
map_part f (Some x) xs = refl

-- one that ends nothing
outcome_same : (tag : ℕ) (es : List Happened) (e : Happened) → ends e ≡ None → outcome_of tag (es ++ e ∷ []) ≡ outcome_of tag es
unfolding outcome_of
outcome_same tag [] e h = ap (λ b. cond b (end_of e) Flying) (done_by_none tag e h)
outcome_same tag (x ∷ es) e h = ap (λ s. cond (is_done_of tag x) (end_of x) s) (outcome_same tag es e h)

part_same : (r : ℕ) (es : List Happened) (e : Happened) (o : Option (ℕ × ℕ)) → ends e ≡ None → option_map (issue_in r (es ++ e ∷ [])) o ≡ option_map (issue_in r es) o
part_same r es e None h = refl
part_same r es e (Some p) h = ap (λ (s : Outcome). let i : Issued = record { round = r; id = p.0; tag = p.1; outcome = s } in Some i) (outcome_same p.1 es e h)

pub issues_kept : (r : ℕ) (es : List Happened) (e : Happened) → issues e ≡ None → ends e ≡ None → issues_from r (es ++ e ∷ []) ≡ issues_from r es
unfolding issues_from
issues_kept r [] e none h = ap (λ o. cons_option (option_map (issue_in r []) o) []) none
issues_kept r (x ∷ es) e none h =
    let next : ℕ = cond (is_tick x) (r + 1) r in
    ap (λ o. cons_option o (issues_from next (es ++ e ∷ []))) (part_same r es e (issues x) h) ∙ ap (cons_option (option_map (issue_in r es) (issues x))) (issues_kept next es e none h)

-- an Issue
pub issues_push : (r n : ℕ) (es : List Happened) (id tag : ℕ) → n ≡ r + round_of es → issues_from r (es ++ Issue id tag ∷ []) ≡ issues_from r es ++ record { round = n; id = id; tag = tag; outcome = Flying } ∷ []
unfolding issues_from outcome_of round_of
issues_push r n [] id tag h =
    let same : r ≡ n = omega arith in
    ap (λ (k : ℕ). let i : Issued = record { round = k; id = id; tag = tag; outcome = Flying } in i ∷ []) same
issues_push r n (x ∷ es) id tag h =
    let next : ℕ = cond (is_tick x) (r + 1) r in
    let more : List Issued = record { round = n; id = id; tag = tag; outcome = Flying } ∷ [] in
    ap (λ o. cons_option o (issues_from next (es ++ Issue id tag ∷ []))) (part_same r es (Issue id tag) (issues x) refl)
    ∙ ap (cons_option (option_map (issue_in r es) (issues x))) (issues_push next n es id tag (h ∙ round_cons x es r))
    ∙ prepend (option_map (issue_in r es) (issues x)) (issues_from next es) more

-- one that ends an Issue
outcome_step : (b c d : Bool) (n s t : Outcome) → s ≡ cond (flies t && d) n t → cond b (cond c Back Done) s ≡ cond (flies (cond b (cond c Back Done) t) && d) n (cond b (cond c Back Done) t)
outcome_step true true d n s t h = refl
outcome_step true false d n s t h = refl
outcome_step false c d n s t h = h

outcome_ended : (tag t : ℕ) (es : List Happened) (e : Happened) → ends e ≡ Some t → outcome_of tag (es ++ e ∷ []) ≡ cond (flies (outcome_of tag es) && (t == tag)) (end_of e) (outcome_of tag es)
unfolding outcome_of
outcome_ended tag t [] e h = ap (λ b. cond b (end_of e) Flying) (done_by tag e t h)
outcome_ended tag t (x ∷ es) e h = outcome_step (is_done_of tag x) (is_some (requeues x)) (t == tag) (end_of e) (outcome_of tag (es ++ e ∷ [])) (outcome_of tag es) (outcome_ended tag t es e h)

choose : (r id tag : ℕ) (b : Bool) (n s : Outcome) → ◌≡◌ {A = Issued} (record { round = r; id = id; tag = tag; outcome = cond b n s }) (cond b (record { round = r; id = id; tag = tag; outcome = n }) (record { round = r; id = id; tag = tag; outcome = s }))
choose r id tag true n s = refl
choose r id tag false n s = refl

part_ended : (r t : ℕ) (es : List Happened) (e : Happened) (o : Option (ℕ × ℕ)) → ends e ≡ Some t → option_map (issue_in r (es ++ e ∷ [])) o ≡ option_map (ended_by t (end_of e)) (option_map (issue_in r es) o)
part_ended r t es e None h = refl
part_ended r t es e (Some p) h =
    ap (λ (s : Outcome). let i : Issued = record { round = r; id = p.0; tag = p.1; outcome = s } in Some i) (outcome_ended p.1 t es e h)
    ∙ ap (λ (i : Issued). Some i) (choose r p.0 p.1 (flies (outcome_of p.1 es) && (t == p.1)) (end_of e) (outcome_of p.1 es))

pub issues_ended : (r t : ℕ) (es : List Happened) (e : Happened) → ends e ≡ Some t → issues e ≡ None → issues_from r (es ++ e ∷ []) ≡ map (ended_by t (end_of e)) (issues_from r es)
unfolding issues_from
issues_ended r t [] e h none = ap (λ o. cons_option (option_map (issue_in r []) o) []) none
issues_ended r t (x ∷ es) e h none =
    let next : ℕ = cond (is_tick x) (r + 1) r in
    ap (λ o. cons_option o (issues_from next (es ++ e ∷ []))) (part_ended r t es e (issues x) h)
    ∙ ap (cons_option (option_map (ended_by t (end_of e)) (option_map (issue_in r es) (issues x)))) (issues_ended next t es e h none)
    ∙ sym (map_part (ended_by t (end_of e)) (option_map (issue_in r es) (issues x)) (issues_from next es))

-- ---- what is in flight has not ended

ended_step : (b c : Bool) (s : Outcome) → b ≡ false → flies (cond b (cond c Back Done) s) ≡ flies s
ended_step b c s h = ap (λ x. flies (cond x (cond c Back Done) s)) h

none_ends : (tag : ℕ) (o : Option ℕ) → (o ≡ Some tag → ⊥) → option_map_or (λ t. t == tag) o false ≡ false
none_ends tag None h = refl
none_ends tag (Some t) h = elim (cases_Bool (t == tag)) [ inl b ↦ absurd (h (ap Some (eqb-true t tag b))) | inr b ↦ b ]

pub flies_on : (tag : ℕ) (es : List Happened) → ((j : ℕ) → EndsAt es j tag → ⊥) → flies (outcome_of tag es) ≡ true
unfolding outcome_of
flies_on tag [] h = refl
flies_on tag (e ∷ es) h =
    ended_step (is_done_of tag e) (is_some (requeues e)) (outcome_of tag es) (none_ends tag (ends e) (λ s. h 0 (e, refl, s))) ∙ flies_on tag es (λ j d. h (suc j) d)

lands : (b c : Bool) (s : Outcome) → b ≡ true → flies (cond b (cond c Back Done) s) ≡ false
lands b true s h = ap (λ x. flies (cond x Back s)) h
lands b false s h = ap (λ x. flies (cond x Done s)) h

pub still_flies : (tag : ℕ) (es : List Happened) → flies (outcome_of tag es) ≡ true → (j : ℕ) → EndsAt es j tag → ⊥
unfolding outcome_of
still_flies tag [] h j d = absurd (let n = d.1 in cc)
still_flies tag (e ∷ es) h zero d =
    let is : e ≡ d.0 = let n = d.1 in cc in
    let b : is_done_of tag e ≡ true = done_by tag e tag (ap ends is ∙ d.2) ∙ eq-eqb tag tag refl in
    absurd (let n : flies (cond (is_done_of tag e) (end_of e) (outcome_of tag es)) ≡ false = lands (is_done_of tag e) (is_some (requeues e)) (outcome_of tag es) b in cc)
still_flies tag (e ∷ es) h (suc j) d =
    elim (cases_Bool (is_done_of tag e)) [
      | inl b ↦ absurd (let n : flies (cond (is_done_of tag e) (end_of e) (outcome_of tag es)) ≡ false = lands (is_done_of tag e) (is_some (requeues e)) (outcome_of tag es) b in cc)
      | inr b ↦ still_flies tag es (sym (ended_step (is_done_of tag e) (is_some (requeues e)) (outcome_of tag es) b) ∙ h) j d
    ]

-- ---- by places

nth_drop : {X : Type 0} (n : ℕ) (xs : List X) (k : ℕ) → slice_get (drop n xs) k ≡ slice_get xs (n + k)
nth_drop zero xs k = ap (slice_get xs) (omega arith)
nth_drop (suc n) [] k = refl
nth_drop (suc n) (x ∷ xs) k = nth_drop n xs k ∙ ap (slice_get (x ∷ xs)) (let e : suc (n + k) ≡ suc n + k = omega arith in e)

pub ends_later : (es : List Happened) (k j tag : ℕ) → EndsAt (drop (suc k) es) j tag → EndsAt es (suc k + j) tag
ends_later es k j tag d = (d.0, sym (nth_drop (suc k) es j) ∙ d.1, d.2)

pub ends_from : (es : List Happened) (k j tag : ℕ) → k < j → EndsAt es j tag → EndsAt (drop (suc k) es) (j - suc k) tag
ends_from es k j tag l d = (d.0, nth_drop (suc k) es (j - suc k) ∙ ap (λ n. slice_get es n) (let e : suc k + (j - suc k) ≡ j = omega arith in e) ∙ d.1, d.2)

-- the event of an Issue, its round, and what became of it
pub record IsFrom (r : ℕ) (es : List Happened) (i : Issued) : Type 0 where
  pub place : ℕ
  pub issued : At es place (Issue i.id i.tag)
  pub now : i.round ≡ r + round_at es place
  pub outcome : i.outcome ≡ outcome_of i.tag (drop (suc place) es)

from_later : (r : ℕ) (x : Happened) (es : List Happened) (i : Issued) → IsFrom (cond (is_tick x) (r + 1) r) es i → IsFrom r (x ∷ es) i
from_later r x es i f = record { place = suc f.place; issued = f.issued; now = f.now ∙ sym (round_cons x (take f.place es) r); outcome = f.outcome }

from_part : (r : ℕ) (x : Happened) (es : List Happened) (o : Option (ℕ × ℕ)) (xs : List Issued) (k : ℕ) (i : Issued) → issues x ≡ o → ((j : ℕ) → slice_get xs j ≡ Some i → IsFrom (cond (is_tick x) (r + 1) r) es i) → slice_get (cons_option (option_map (issue_in r es) o) xs) k ≡ Some i → IsFrom r (x ∷ es) i
unfolding round_of
from_part r x es None xs k i is later h = from_later r x es i (later k h)
from_part r x es (Some q) xs zero i is later h =
    let same : issue_in r es q ≡ i = cc in
    let round : r ≡ i.round = ap (λ (j : Issued). j.round) same in
    record {
      place = 0;
      issued = ap Some (issue_is x q is) ∙ ap (λ (j : Issued). let e : Happened = Issue j.id j.tag in Some e) same;
      now = omega (arith, round);
      outcome = ap (λ (j : Issued). j.outcome) (sym same) ∙ ap (λ (j : Issued). outcome_of j.tag es) same;
    }
from_part r x es (Some q) xs (suc k) i is later h = from_later r x es i (later k h)

pub issue_from : (r : ℕ) (es : List Happened) (k : ℕ) (i : Issued) → slice_get (issues_from r es) k ≡ Some i → IsFrom r es i
unfolding issues_from
issue_from r [] k i h = absurd (cc)
issue_from r (x ∷ es) k i h = from_part r x es (issues x) (issues_from (cond (is_tick x) (r + 1) r) es) k i refl (λ j t. issue_from (cond (is_tick x) (r + 1) r) es j i t) h

-- the place of an Issue's event
place_after : {X : Type 0} (o : Option X) (xs : List X) (k : ℕ) (x : X) → slice_get xs k ≡ Some x → (j : ℕ) × (slice_get (cons_option o xs) j ≡ Some x)
place_after None xs k x h = (k, h)
place_after (Some y) xs k x h = (suc k, h)

pub issue_at : (r : ℕ) (es : List Happened) (k id tag : ℕ) → At es k (Issue id tag) → (j : ℕ) × ((n : ℕ) × (slice_get (issues_from r es) j ≡ Some (record { round = n; id = id; tag = tag; outcome = outcome_of tag (drop (suc k) es) })) × (n ≡ r + round_at es k))
unfolding issues_from round_of
issue_at r [] k id tag h = absurd (cc)
issue_at r (x ∷ es) zero id tag h =
    let is : x ≡ Issue id tag = cc in
    (0, (r, ap (λ o. slice_get (cons_option (option_map (issue_in r es) o) (issues_from (cond (is_tick x) (r + 1) r) es)) 0) (ap issues is), omega arith))
issue_at r (x ∷ es) (suc k) id tag h =
    let p = issue_at (cond (is_tick x) (r + 1) r) es k id tag h in
    let q = place_after (option_map (issue_in r es) (issues x)) (issues_from (cond (is_tick x) (r + 1) r) es) p.0 _ p.1.1 in
    (q.0, (p.1.0, q.1, p.1.2 ∙ sym (round_cons x (take k es) r)))

pub was_so : (es : List Happened) (k : ℕ) (i : Issued) → slice_get (issues_of es) k ≡ Some i → IsIssued es i.id
was_so es k i h = let f = issue_from 0 es k i h in (f.place, (i.tag, f.issued))

-- one in flight is an open one
pub flying_by : (es : List Happened) (k : ℕ) (i : Issued) → slice_get (issues_of es) k ≡ Some i → i.outcome ≡ Flying → IsOpenBy es i.tag i.id
flying_by es k i h is =
    let f = issue_from 0 es k i h in
    record {
      place = f.place;
      issued = f.issued;
      not_done = λ j l d. still_flies i.tag (drop (suc f.place) es) (ap flies (sym f.outcome ∙ is)) (j - suc f.place) (ends_from es f.place j i.tag l d);
    }

-- ---- the one that ends

pub flying_is : (o : Outcome) → flies o ≡ true → o ≡ Flying
flying_is Flying h = refl
flying_is Done h = absurd (cc)
flying_is Back h = absurd (cc)

-- and an open one is in flight
pub flying_place : (es : List Happened) (t id : ℕ) → IsOpenBy es t id → (place : ℕ) × ((f : IsFlyingAt (issues_of es) place t) × (f.issue.id ≡ id))
flying_place es t id o =
    let p = issue_at 0 es o.place id t o.issued in
    let later : List Happened = drop (suc o.place) es in
    let i : Issued = record { round = p.1.0; id = id; tag = t; outcome = outcome_of t later } in
    let flies : outcome_of t later ≡ Flying = flying_is (outcome_of t later) (flies_on t later (λ j d. o.not_done (suc o.place + j) (omega arith) (ends_later es o.place j t d))) in
    (p.0, (record { issue = i; there = p.1.1; under = refl; flies = flies }, refl))

pub get_map : {X Y : Type 0} (f : X → Y) (xs : List X) (k : ℕ) (y : Y) → slice_get (map f xs) k ≡ Some y → (x : X) × (slice_get xs k ≡ Some x) × (f x ≡ y)
get_map f [] k y h = absurd (cc)
get_map f (x ∷ xs) zero y h = (x, refl, cc)
get_map f (x ∷ xs) (suc k) y h = get_map f xs k y h

pub map_get : {X Y : Type 0} (f : X → Y) (xs : List X) (k : ℕ) (x : X) → slice_get xs k ≡ Some x → slice_get (map f xs) k ≡ Some (f x)
map_get f [] k x h = absurd (cc)
map_get f (z ∷ xs) zero x h = let same : z ≡ x = cc in ap (λ w. Some (f w)) same
map_get f (z ∷ xs) (suc k) x h = map_get f xs k x h

-- the same Issue, but for what became of it
abbrev pub with_outcome : Issued → Outcome → Issued
with_outcome i n = record { round = i.round; id = i.id; tag = i.tag; outcome = n }

-- an end changes no more than an Issue's outcome, and what flies after it is as it was
same_but : (b : Bool) (i : Issued) (n : Outcome) → cond b (with_outcome i n) i ≡ with_outcome i (cond b (with_outcome i n) i).outcome
same_but true i n = refl
same_but false i n = refl

ended_is : (t : ℕ) (n : Outcome) (i : Issued) → ended_by t n i ≡ with_outcome i (ended_by t n i).outcome
ended_is t n i = same_but (flies i.outcome && (t == i.tag)) i n

pub ended_round : (t : ℕ) (n : Outcome) (i : Issued) → (ended_by t n i).round ≡ i.round
ended_round t n i = ap (λ (x : Issued). x.round) (ended_is t n i)

pub ended_id : (t : ℕ) (n : Outcome) (i : Issued) → (ended_by t n i).id ≡ i.id
ended_id t n i = ap (λ (x : Issued). x.id) (ended_is t n i)

pub ended_tag : (t : ℕ) (n : Outcome) (i : Issued) → (ended_by t n i).tag ≡ i.tag
ended_tag t n i = ap (λ (x : Issued). x.tag) (ended_is t n i)

-- what ends flies no more
end_is : (b : Bool) → flies (cond b Back Done) ≡ false
end_is true = refl
end_is false = refl

pub end_lands : (e : Happened) → flies (end_of e) ≡ false
end_lands e = end_is (is_some (requeues e))

pub flew : (t : ℕ) (n : Outcome) (i : Issued) → (n ≡ Flying → ⊥) → (ended_by t n i).outcome ≡ Flying → ended_by t n i ≡ i
flew t n i lands h =
    elim (cases_Bool (flies i.outcome && (t == i.tag))) [
      | inl b ↦ absurd (lands (ap (λ c. (cond c (with_outcome i n) i).outcome) (sym b) ∙ h))
      | inr b ↦ ap (λ c. cond c (with_outcome i n) i) b
    ]

none_ended : (t : ℕ) (n : Outcome) (xs : List Issued) → ((k : ℕ) (i : Issued) → slice_get xs k ≡ Some i → (flies i.outcome && (t == i.tag)) ≡ false) → map (ended_by t n) xs ≡ xs
none_ended t n [] h = refl
none_ended t n (x ∷ xs) h =
    ap (λ b. cond b (with_outcome x n) x ∷ map (ended_by t n) xs) (h 0 x refl) ∙ ap (λ l. x ∷ l) (none_ended t n xs (λ k i at. h (suc k) i at))

not_both : (b : Bool) → (b ≡ true → ⊥) → b ≡ false
not_both true h = absurd (h refl)
not_both false h = refl

pub set_ended : (t : ℕ) (n : Outcome) (xs : List Issued) (place : ℕ) (i : Issued) → slice_get xs place ≡ Some i → (flies i.outcome && (t == i.tag)) ≡ true
    → ((k : ℕ) (j : Issued) → slice_get xs k ≡ Some j → (flies j.outcome && (t == j.tag)) ≡ true → k ≡ place) → set xs place (with_outcome i n) ≡ map (ended_by t n) xs
set_ended t n [] place i at is only = absurd (cc)
set_ended t n (x ∷ xs) zero i at is only =
    let same : x ≡ i = cc in
    let rest : map (ended_by t n) xs ≡ xs = none_ended t n xs (λ k j there. not_both (flies j.outcome && (t == j.tag)) (λ b. absurd (omega (arith, only (suc k) j there b)))) in
    let here : (flies x.outcome && (t == x.tag)) ≡ true = subst (λ (y : Issued). (flies y.outcome && (t == y.tag)) ≡ true) (sym same) is in
    ap (λ (y : Issued). with_outcome y n ∷ xs) (sym same) ∙ sym (ap (λ b. cond b (with_outcome x n) x ∷ map (ended_by t n) xs) here ∙ ap (λ l. with_outcome x n ∷ l) rest)
set_ended t n (x ∷ xs) (suc place) i at is only =
    let other : (flies x.outcome && (t == x.tag)) ≡ false = not_both (flies x.outcome && (t == x.tag)) (λ b. absurd (omega (arith, only 0 x refl b))) in
    ap (λ l. x ∷ l) (set_ended t n xs place i at is (λ k j there b. omega (arith, only (suc k) j there b)))
    ∙ sym (ap (λ b. cond b (with_outcome x n) x ∷ map (ended_by t n) xs) other)

-- one that stands in them was issued
pub issued_there : (es : List Happened) (xs : List Issued) (k : ℕ) (d : Issued) → xs ≡ issues_of es → k < length xs → IsIssued es (get_or xs k d).id
issued_there es xs k d same low = was_so es k (get_or xs k d) (ap (λ l. slice_get l k) (sym same) ∙ slice_get-get_or xs k d low)

-- what is taken of one more of a list
pub next_taken : {X Y : Type 0} (f : X → Option Y) (xs ys : List X) (k : ℕ) (d : X) (o : Option Y) (before after : List Y)
    → xs ≡ ys → k < length xs → o ≡ f (get_or xs k d) → before ≡ filter_map f (take k ys) → after ≡ before ++ cons_option o [] → after ≡ filter_map f (take (k + 1) ys)
next_taken f xs ys k d o before after same low is old new =
    new
    ∙ ap (λ l. l ++ cons_option o []) old
    ∙ ap (λ x. filter_map f (take k ys) ++ cons_option x []) is
    ∙ ap (λ l. filter_map f (take k l) ++ cons_option (f (get_or xs k d)) []) (sym same)
    ∙ sym (filter_map-append f (take k xs) (get_or xs k d ∷ []))
    ∙ ap (filter_map f) (sym (take_more xs k d low))
    ∙ ap (λ l. filter_map f (take (k + 1) l)) same

-- how many there are, and in which rounds
few_part : (r : ℕ) (es : List Happened) (o : Option (ℕ × ℕ)) (xs : List Issued) → length (cons_option (option_map (issue_in r es) o) xs) ≤ length xs + 1
few_part r es None xs = omega arith
few_part r es (Some p) xs = omega arith

pub issues_few : (r : ℕ) (es : List Happened) → length (issues_from r es) ≤ length es
unfolding issues_from
issues_few r [] = omega arith
issues_few r (e ∷ es) = let next : ℕ = cond (is_tick e) (r + 1) r in omega (arith, few_part r es (issues e) (issues_from next es), issues_few next es)

between_part : (r n : ℕ) (es : List Happened) (o : Option (ℕ × ℕ)) (xs : List Issued) (k : ℕ) (i : Issued) → r ≤ n → ((j : ℕ) → slice_get xs j ≡ Some i → (r ≤ i.round) × (i.round ≤ n)) → slice_get (cons_option (option_map (issue_in r es) o) xs) k ≡ Some i → (r ≤ i.round) × (i.round ≤ n)
between_part r n es None xs k i low later h = later k h
between_part r n es (Some p) xs zero i low later h = let same : issue_in r es p ≡ i = cc in subst (λ (x : Issued). (r ≤ x.round) × (x.round ≤ n)) same (omega arith, low)
between_part r n es (Some p) xs (suc k) i low later h = later k h

tick_up : (b : Bool) (r : ℕ) → r ≤ cond b (r + 1) r
tick_up true r = omega arith
tick_up false r = omega arith

pub issue_between : (r : ℕ) (es : List Happened) (k : ℕ) (i : Issued) → slice_get (issues_from r es) k ≡ Some i → (r ≤ i.round) × (i.round ≤ r + round_of es)
unfolding issues_from
issue_between r [] k i h = absurd (cc)
issue_between r (e ∷ es) k i h =
    let next : ℕ = cond (is_tick e) (r + 1) r in
    between_part r (r + round_of (e ∷ es)) es (issues e) (issues_from next es) k i (omega arith)
    (λ j there. let b = issue_between next es j i there in (omega (arith, tick_up (is_tick e) r, b.0), omega (arith, b.1, round_cons e es r))) h

pub issue_low : (r : ℕ) (es : List Happened) (k : ℕ) (i : Issued) → slice_get (issues_from r es) k ≡ Some i → i.round ≤ r + round_of es
issue_low r es k i h = (issue_between r es k i h).1
