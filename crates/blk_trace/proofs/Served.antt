-- The Issues that were not requeued: with one more event, and by places.
use Rattle.std.proofs.Common.{◌≡◌, ◌≤◌, ◌+◌, ◌++◌, ◌==◌, ℕ, zero, suc, List, [], ◌∷◌, map, get_or, drop, refl, sym, ◌∙◌, ap, arith, inl, inr, Some, None, option_map, cond, Bool, true, false, eq-eqb, eqb-true, append-nil}
use Rattle.std.specs.Prelude.{◌&&◌, ◌||◌, not, Option, All, slice_get}
use Rattle.std.specs.List.{cons_option, filter_map}
use Rattle.std.proofs.lemmas.List.{map-append}
use Rattle.std.proofs.lemmas.List.Elements.{filter-append, All-filter, All-map}
use Rattle.std.proofs.lemmas.Option.{slice_get-get_or}
use Rattle.std.proofs.lemmas.Bool.{cases_Bool, or_cases, or_left, or_right}
use Rattle.blk_trace.specs.declared.issued.Outcome.{Outcome}
use Rattle.blk_trace.specs.declared.issued.Outcome.TheVariants as outcome
use Rattle.blk_trace.specs.declared.issued.Issued.{Issued}
use Rattle.blk_trace.specs.Happened.{Happened, Issue, Done, Back}
use Rattle.blk_trace.specs.Kinds.{issues, requeues}
use Rattle.blk_trace.specs.Setups.{Setup}
use Rattle.blk_trace.specs.Events.{At, round_of}
use Rattle.blk_trace.specs.Issues.{issues_from, issues_of, outcome_of, flies, was_requeued, kept_of}
use Rattle.blk_trace.specs.Meaning.{round_and_id, served, issued_ids, rounds_of, command_of, commands_of}
use Rattle.blk_trace.specs.Waits.{has_id}
use Rattle.blk_trace.specs.Inside.Issues.{ended_by, command_in, round_in}
use Rattle.blk_trace.proofs.Issues.{issues_kept, issues_push, issues_ended, issue_at, issue_from, issue_between}

-- the rounds and ids of those of a list
abbrev pub kept_pairs : List Issued → List (ℕ × ℕ)
kept_pairs xs = map round_and_id (kept_of xs)

pub kept_append : (xs ys : List Issued) → kept_pairs (xs ++ ys) ≡ kept_pairs xs ++ kept_pairs ys
kept_append xs ys = ap (map round_and_id) (filter-append (λ i. not (was_requeued i.outcome)) xs ys) ∙ map-append round_and_id (kept_of xs) (kept_of ys)

-- a Done leaves them
abbrev kept_first : Issued → List Issued → List Issued
kept_first i xs = cond (not (was_requeued i.outcome)) (i ∷ xs) xs

done_first : (r id tag : ℕ) (o : Outcome) (b : Bool) (xs ys : List Issued) → map round_and_id xs ≡ map round_and_id ys
    → map round_and_id (kept_first (cond (flies o && b) (record { round = r; id = id; tag = tag; outcome = outcome.Done }) (record { round = r; id = id; tag = tag; outcome = o })) xs) ≡ map round_and_id (kept_first (record { round = r; id = id; tag = tag; outcome = o }) ys)
done_first r id tag outcome.Flying true xs ys h = ap (λ l. (r, id) ∷ l) h
done_first r id tag outcome.Flying false xs ys h = ap (λ l. (r, id) ∷ l) h
done_first r id tag outcome.Done b xs ys h = ap (λ l. (r, id) ∷ l) h
done_first r id tag outcome.Back b xs ys h = h

kept_done : (t : ℕ) (xs : List Issued) → kept_pairs (map (ended_by t outcome.Done) xs) ≡ kept_pairs xs
kept_done t [] = refl
kept_done t (x ∷ xs) = done_first x.round x.id x.tag x.outcome (t == x.tag) (kept_of (map (ended_by t outcome.Done) xs)) (kept_of xs) (kept_done t xs)

pub served_push : (es : List Happened) (e : Happened) → requeues e ≡ None → served 0 (es ++ e ∷ []) ≡ served 0 es ++ cons_option (option_map (λ p. (round_of es, p.0)) (issues e)) []
unfolding served
served_push es (Issue id tag) h = ap kept_pairs (issues_push 0 (round_of es) es id tag (omega arith)) ∙ kept_append (issues_of es) _
served_push es (Done t) h = ap kept_pairs (issues_ended 0 t es (Done t) refl refl) ∙ kept_done t (issues_of es) ∙ sym (append-nil _)
served_push es (Back t) h = absurd (cc)
served_push es e h = ap kept_pairs (issues_kept 0 es e refl refl) ∙ sym (append-nil _)

-- the id that an event issues
abbrev pub new_ids : Happened → List ℕ
new_ids e = cons_option (option_map (λ p. p.0) (issues e)) []

map_new : {Y : Type 0} (f : ℕ × ℕ → Y) (r : ℕ) (o : Option (ℕ × ℕ)) → map f (cons_option (option_map (λ p. (r, p.0)) o) []) ≡ cons_option (option_map (λ p. f (r, p.0)) o) []
map_new f r None = refl
map_new f r (Some p) = refl

map_push : {Y : Type 0} (f : ℕ × ℕ → Y) (es : List Happened) (e : Happened) → requeues e ≡ None → map f (served 0 (es ++ e ∷ [])) ≡ map f (served 0 es) ++ cons_option (option_map (λ p. f (round_of es, p.0)) (issues e)) []
map_push f es e h = ap (map f) (served_push es e h) ∙ map-append f (served 0 es) _ ∙ ap (λ l. map f (served 0 es) ++ l) (map_new f (round_of es) (issues e))

pub issued_more : (es : List Happened) (e : Happened) → requeues e ≡ None → issued_ids (es ++ e ∷ []) ≡ issued_ids es ++ new_ids e
unfolding issued_ids
issued_more es e h = map_push (λ s. s.1) es e h

pub rounds_more : (es : List Happened) (e : Happened) → requeues e ≡ None → rounds_of (es ++ e ∷ []) ≡ rounds_of es ++ cons_option (option_map (λ _. round_of es) (issues e)) []
unfolding rounds_of
rounds_more es e h = map_push (λ s. s.0) es e h

-- they lie in the rounds of the events
pub served_between : (r : ℕ) (es : List Happened) → All (λ (s : ℕ × ℕ). (r ≤ s.0) × (s.0 ≤ r + round_of es)) (served r es)
unfolding served
served_between r es =
    let P : Issued → Type 0 = λ i. (r ≤ i.round) × (i.round ≤ r + round_of es) in
    All-map (λ (s : ℕ × ℕ). (r ≤ s.0) × (s.0 ≤ r + round_of es)) round_and_id (kept_of (issues_from r es))
    (All-filter (λ (i : Issued). not (was_requeued i.outcome)) P (issues_from r es) (λ k d h. issue_between r es k (get_or (issues_from r es) k d) (slice_get-get_or (issues_from r es) k d h)))

-- ---- the commands, and their rounds

one_command : {Y : Type 0} (h : Issued → Y) (i : Issued) (b : Bool) (xs : List Issued) → cons_option (cond b None (Some (h i))) (map h xs) ≡ map h (cond (not b) (i ∷ xs) xs)
one_command h i true xs = refl
one_command h i false xs = refl

pub kept_map : {Y : Type 0} (h : Issued → Y) (xs : List Issued) → filter_map (λ (i : Issued). cond (was_requeued i.outcome) None (Some (h i))) xs ≡ map h (kept_of xs)
kept_map h [] = refl
kept_map h (x ∷ xs) = ap (cons_option (cond (was_requeued x.outcome) None (Some (h x)))) (kept_map h xs) ∙ one_command h x (was_requeued x.outcome) (kept_of xs)

map_map : {X Y Z : Type 0} (f : X → Y) (g : Y → Z) (xs : List X) → map g (map f xs) ≡ map (λ x. g (f x)) xs
map_map f g [] = refl
map_map f g (x ∷ xs) = ap (λ l. g (f x) ∷ l) (map_map f g xs)

pub commands_are : (setup : Setup) (es : List Happened) → filter_map (command_in setup es) (issues_of es) ≡ commands_of setup es
unfolding commands_of issued_ids served
commands_are setup es =
    kept_map (λ (i : Issued). command_of setup es i.id) (issues_of es)
    ∙ sym (map_map (λ (i : Issued). i.id) (command_of setup es) (kept_of (issues_of es)))
    ∙ ap (map (command_of setup es)) (sym (map_map round_and_id (λ (s : ℕ × ℕ). s.1) (kept_of (issues_of es))))

pub round_list : (es : List Happened) → rounds_of es ≡ map (λ (i : Issued). i.round) (kept_of (issues_of es))
unfolding rounds_of served
round_list es = map_map round_and_id (λ (s : ℕ × ℕ). s.0) (kept_of (issues_of es))

pub rounds_are : (es : List Happened) → filter_map round_in (issues_of es) ≡ rounds_of es
rounds_are es = kept_map (λ (i : Issued). i.round) (issues_of es) ∙ sym (round_list es)

pub in_command : (setup : Setup) (es : List Happened) (i : Issued) (b : Bool) → was_requeued i.outcome ≡ b → command_in setup es i ≡ cond b None (Some (command_of setup es i.id))
in_command setup es i b h = ap (λ b. cond b None (Some (command_of setup es i.id))) h

pub in_round : (i : Issued) (b : Bool) → was_requeued i.outcome ≡ b → round_in i ≡ cond b None (Some i.round)
in_round i b h = ap (λ b. cond b None (Some i.round)) h

-- ---- by places

abbrev kept_ids : List Issued → List ℕ
kept_ids xs = map (λ (s : ℕ × ℕ). s.1) (kept_pairs xs)

more_ids : (b : Bool) (x : Issued) (ys : List Issued) (id : ℕ) → has_id (map (λ (s : ℕ × ℕ). s.1) (map round_and_id ys)) id ≡ true → has_id (map (λ (s : ℕ × ℕ). s.1) (map round_and_id (cond (not b) (x ∷ ys) ys))) id ≡ true
more_ids true x ys id h = h
more_ids false x ys id h = or_right (x.id == id) _ h

has_kept : (xs : List Issued) (k : ℕ) (i : Issued) → slice_get xs k ≡ Some i → was_requeued i.outcome ≡ false → has_id (kept_ids xs) i.id ≡ true
has_kept [] k i h n = absurd (cc)
has_kept (x ∷ xs) zero i h n =
    let same : x ≡ i = cc in
    let stays : was_requeued x.outcome ≡ false = ap (λ (y : Issued). was_requeued y.outcome) same ∙ n in
    ap (λ b. has_id (map (λ (s : ℕ × ℕ). s.1) (map round_and_id (cond (not b) (x ∷ kept_of xs) (kept_of xs)))) i.id) stays ∙ or_left (x.id == i.id) _ (eq-eqb x.id i.id (ap (λ (y : Issued). y.id) same))
has_kept (x ∷ xs) (suc k) i h n = more_ids (was_requeued x.outcome) x (kept_of xs) i.id (has_kept xs k i h n)

-- the Issue of an id that stands among those
record IsKept (xs : List Issued) (id : ℕ) : Type 0 where
  place : ℕ
  issue : Issued
  there : slice_get xs place ≡ Some issue
  named : issue.id ≡ id
  stays : was_requeued issue.outcome ≡ false

kept_later : (x : Issued) (xs : List Issued) (id : ℕ) → IsKept xs id → IsKept (x ∷ xs) id
kept_later x xs id p = record { place = suc p.place; issue = p.issue; there = p.there; named = p.named; stays = p.stays }

kept_has : (xs : List Issued) (id : ℕ) → has_id (kept_ids xs) id ≡ true → IsKept xs id
kept_has [] id h = absurd (cc)
kept_has (x ∷ xs) id h =
    elim (cases_Bool (was_requeued x.outcome)) [
      | inl b ↦ kept_later x xs id (kept_has xs id (rw b at h))
      | inr b ↦
          let found : ((x.id == id) || has_id (kept_ids xs) id) ≡ true = rw b at h in
          elim (or_cases (x.id == id) (has_id (kept_ids xs) id) found) [
            | inl t ↦ record { place = 0; issue = x; there = refl; named = eqb-true x.id id t; stays = b }
            | inr t ↦ kept_later x xs id (kept_has xs id t)
          ]
    ]

-- the Issue of an id that was not requeued
pub record IsServed (es : List Happened) (id : ℕ) : Type 0 where
  pub place : ℕ
  pub tag : ℕ
  pub issued : At es place (Issue id tag)
  pub stays : was_requeued (outcome_of tag (drop (suc place) es)) ≡ false

pub has_served : (es : List Happened) (id : ℕ) → has_id (issued_ids es) id ≡ true → IsServed es id
unfolding issued_ids served
has_served es id h =
    let p = kept_has (issues_of es) id h in
    let f = issue_from 0 es p.place p.issue p.there in
    record { place = f.place; tag = p.issue.tag; issued = f.issued ∙ ap (λ n. Some (Issue n p.issue.tag)) p.named; stays = ap was_requeued (sym f.outcome) ∙ p.stays }

pub served_has : (es : List Happened) (k id tag : ℕ) → At es k (Issue id tag) → was_requeued (outcome_of tag (drop (suc k) es)) ≡ false → has_id (issued_ids es) id ≡ true
unfolding issued_ids served
served_has es k id tag h stays =
    let p = issue_at 0 es k id tag h in
    has_kept (issues_of es) p.0 (record { round = p.1.0; id = id; tag = tag; outcome = outcome_of tag (drop (suc k) es) }) p.1.1 stays
