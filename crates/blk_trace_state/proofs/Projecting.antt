-- What is read off the state that a legal list leaves is what the list says.
use Rattle.std.proofs.Common.{◌≡◌, ◌+◌, ◌-◌, ◌++◌, ◌==◌, ◌∙◌, ◌∷◌, ℕ, zero, suc, List, [], refl, sym, ap, subst, arith, inl, inr, cond, Bool, true, false, map, length, take, drop, IfOk, count_by, eqb-true}
use Rattle.std.specs.Prelude.{◌&&◌, ◌||◌, not, filter, find, slice_get, is_some, Option, Some, None, option_map, Result, Ok, Err}
use Rattle.std.specs.Option.{option_map_or}
use Rattle.std.specs.List.{cons_option, flat_map, list_any}
use Rattle.std.proofs.lemmas.Bool.{cases_Bool, both_ways}
use Rattle.std.proofs.lemmas.List.Sums.{sum_by-cons}
use Rattle.edd_commands.specs.declared.Command.{Command}
use Rattle.blk_bio.specs.Bios.{Bio}
use Rattle.blk_bio.specs.declared.rule.TraceRule.{TraceRule}
use Rattle.blk_trace.specs.declared.event.Event.TheVariants.{Issue}
use Rattle.blk_trace.specs.Happened.{Happened}
use Rattle.blk_trace.specs.Kinds.{is_tick, issues, is_issue, ends, is_done_of}
use Rattle.blk_trace.specs.Setups.{Setup}
use Rattle.blk_trace.specs.Events.{At, EndsAt, round_of, round_at, request_of}
use Rattle.blk_trace.specs.Meaning.{command_of, round_and_id, served, issued_ids, commands_of, rounds_of, released_ids, rising, waiting_ids, waiting_of}
use Rattle.blk_trace.specs.Waits.{Entered, has_id, waits_at}
use Rattle.blk_trace.proofs.Ids.{has_issued, released_first, released_has}
use Rattle.blk_trace.proofs.More.{round_cons}
use Rattle.blk_trace.proofs.Counting.{one_if}
use Rattle.blk_trace.proofs.Commands.{map_same}
use Rattle.blk_trace.specs.declared.issued.Outcome.{Outcome}
use Rattle.blk_trace.specs.declared.issued.Outcome.TheVariants as outcome
use Rattle.blk_trace.specs.declared.issued.Issued.{Issued}
use Rattle.blk_trace.specs.Issues.{flies, was_requeued}
use Rattle.blk_trace_state.specs.State.{Entry, LayerState, entry_now, request_now, is_out, kept_now, command_now, commands_now, rounds_now, waits_now, waiting_now, waiting_bios_now}
use Rattle.blk_trace_state.specs.Replay.{replay}
use Rattle.blk_trace_state.specs.Laws.{Leaves, IsOutcome, entry_of, IsStateOf}
use Rattle.blk_trace.specs.Issues.{outcome_of, end_of, issue_in, issues_from, kept_of}
use Rattle.blk_trace.proofs.Issues.{still_flies}
use Rattle.blk_trace_state.proofs.Entering.{entries_of, entry_in, ids_in}
use Rattle.blk_trace_state.proofs.Standing.{Stands, bios_of_id, ends_later, ends_from}
use Rattle.blk_trace_state.proofs.Replaying.{IsTold, replay_told}

-- what holds of each state that the list leaves and that stands
pub leaves : (P : Setup → List Happened → LayerState → Type 0) → ((setup : Setup) (events : List Happened) (s : LayerState) → replay setup events ≡ Ok s → Stands setup events s → P setup events s) → Leaves P
leaves P each setup events legal = by (replay setup events) refl (replay_told setup events legal.are_requests)
  where
    by : (o : Result LayerState (ℕ × TraceRule)) → replay setup events ≡ o → IsTold setup events o → IfOk o (P setup events)
    by (Ok s) is st = each setup events s is st
    by (Err f) is fault = tt

-- ---- lists

pub map_after : {X Y Z : Type 0} (f : Y → Z) (g : X → Y) (xs : List X) → map (λ x. f (g x)) xs ≡ map f (map g xs)
map_after f g [] = refl
map_after f g (x ∷ xs) = ap (λ l. f (g x) ∷ l) (map_after f g xs)

filter_same : (p q : ℕ → Bool) (xs : List ℕ) → ((x : ℕ) → p x ≡ q x) → filter p xs ≡ filter q xs
filter_same p q [] h = refl
filter_same p q (x ∷ xs) h = ap (λ b. cond b (x ∷ filter p xs) (filter p xs)) (h x) ∙ ap (λ l. cond (q x) (x ∷ l) l) (filter_same p q xs h)

flat_same : (f g : ℕ → List Bio) (xs : List ℕ) → ((x : ℕ) → f x ≡ g x) → flat_map f xs ≡ flat_map g xs
flat_same f g [] h = refl
flat_same f g (x ∷ xs) h = ap (λ l. l ++ flat_map f xs) (h x) ∙ ap (λ l. g x ++ l) (flat_same f g xs h)

-- ---- commands

pub kept_served : (setup : Setup) (es : List Happened) (s : LayerState) → Stands setup es s → map round_and_id (kept_now s) ≡ served 0 es
unfolding served
kept_served setup es s st = ap (λ l. map round_and_id (kept_of l)) st.issued_are

kept_ids : (setup : Setup) (es : List Happened) (s : LayerState) → Stands setup es s → map (λ (i : Issued). i.id) (kept_now s) ≡ issued_ids es
unfolding issued_ids
kept_ids setup es s st = map_after (λ (p : ℕ × ℕ). p.1) round_and_id (kept_now s) ∙ ap (map (λ (p : ℕ × ℕ). p.1)) (kept_served setup es s st)

pub rounds_are : (setup : Setup) (es : List Happened) (s : LayerState) → Stands setup es s → rounds_now s ≡ rounds_of es
unfolding rounds_of
rounds_are setup es s st = map_after (λ (p : ℕ × ℕ). p.0) round_and_id (kept_now s) ∙ ap (map (λ (p : ℕ × ℕ). p.0)) (kept_served setup es s st)

entry_there : (setup : Setup) (es : List Happened) (s : LayerState) → Stands setup es s → (id : ℕ) → entry_now s id ≡ cond (has_id (released_ids es) id) (Some (entry_of setup es id)) None
entry_there setup es s st id = ap (find (λ (r : Entry). r.id == id)) st.entries_are ∙ entry_in setup es id

pub command_is : (setup : Setup) (es : List Happened) (s : LayerState) → Stands setup es s → (id : ℕ) → has_id (released_ids es) id ≡ true → command_now s id ≡ command_of setup es id
command_is setup es s st id h =
    let there : entry_now s id ≡ Some (entry_of setup es id) = entry_there setup es s st id ∙ ap (λ b. cond b (Some (entry_of setup es id)) None) h in
    ap (λ (o : Option Entry). let c : Command = record { id = id; release = option_map_or (λ (r : Entry). r.release) o 0; due = option_map_or (λ (r : Entry). r.due) o 0 } in c) there

pub commands_are : (setup : Setup) (es : List Happened) (s : LayerState) → Stands setup es s → commands_now s ≡ commands_of setup es
unfolding commands_of
commands_are setup es s st =
    map_after (command_now s) (λ (i : Issued). i.id) (kept_now s)
    ∙ ap (map (command_now s)) (kept_ids setup es s st)
    ∙ map_same (command_now s) (command_of setup es) (issued_ids es) (λ id h. let p = released_first setup es id st.legal (has_issued es id h) in command_is setup es s st id (released_has es p.0 id p.1.0 p.1.1))

-- ---- what waits

gone_part : (id : ℕ) (i : Issued) (xs : List Issued) (b : Bool) (rest : Bool) → was_requeued i.outcome ≡ b → list_any (λ x. x == id) (map (λ (i : Issued). i.id) xs) ≡ rest
    → (((i.id == id) && not (was_requeued i.outcome)) || rest) ≡ list_any (λ x. x == id) (map (λ (i : Issued). i.id) (cond (not (was_requeued i.outcome)) (i ∷ xs) xs))
gone_part id i xs true rest is ih =
    ap (λ c. ((i.id == id) && not c) || rest) is ∙ and_none (i.id == id) rest ∙ sym (ap (λ c. list_any (λ x. x == id) (map (λ (i : Issued). i.id) (cond (not c) (i ∷ xs) xs))) is ∙ ih)
  where
    and_none : (x y : Bool) → ((x && false) || y) ≡ y
    and_none true y = refl
    and_none false y = refl
gone_part id i xs false rest is ih =
    ap (λ c. ((i.id == id) && not c) || rest) is ∙ and_all (i.id == id) rest ∙ sym (ap (λ c. list_any (λ x. x == id) (map (λ (i : Issued). i.id) (cond (not c) (i ∷ xs) xs))) is ∙ ap (λ c. (i.id == id) || c) ih)
  where
    and_all : (x y : Bool) → ((x && true) || y) ≡ (x || y)
    and_all true y = refl
    and_all false y = refl

gone_any : (id : ℕ) (xs : List Issued) → list_any (λ (i : Issued). (i.id == id) && not (was_requeued i.outcome)) xs ≡ list_any (λ x. x == id) (map (λ (i : Issued). i.id) (kept_of xs))
gone_any id [] = refl
gone_any id (i ∷ xs) = gone_part id i (kept_of xs) (was_requeued i.outcome) (list_any (λ (i : Issued). (i.id == id) && not (was_requeued i.outcome)) xs) refl (sym (gone_any id xs))

pub gone_is : (setup : Setup) (es : List Happened) (s : LayerState) → Stands setup es s → (id : ℕ) → is_out s id ≡ has_id (issued_ids es) id
gone_is setup es s st id = gone_any id s.issued ∙ ap (list_any (λ x. x == id)) (kept_ids setup es s st)

pub waiting_are : (setup : Setup) (es : List Happened) (s : LayerState) → Stands setup es s → waiting_now s ≡ waiting_ids es
unfolding waiting_ids
waiting_are setup es s st =
    let ids : map (λ (r : Entry). r.id) s.entries ≡ released_ids es = ap (map (λ (r : Entry). r.id)) st.entries_are ∙ ids_in setup es in
    ap (λ l. rising (filter (λ id. not (is_out s id)) l)) ids
    ∙ ap rising (filter_same (λ id. not (is_out s id)) (λ id. not (has_id (issued_ids es) id)) (released_ids es) (λ id. ap not (gone_is setup es s st id)))

pub bios_are : (setup : Setup) (es : List Happened) (s : LayerState) → Stands setup es s → waiting_bios_now s ≡ waiting_of es
unfolding waiting_of
bios_are setup es s st = ap (flat_map (request_now s)) (waiting_are setup es s st) ∙ flat_same (request_now s) (request_of es) (waiting_ids es) (bios_of_id setup es s st)

one_waits : (a g : Bool) (r : Entry) → cond g None (option_map (λ (r : Entry). let w : Entered = record { release = r.release; due = r.due; bios = r.bios } in w) (cond a (Some r) None)) ≡ cond (a && not g) (Some (let w : Entered = record { release = r.release; due = r.due; bios = r.bios } in w)) None
one_waits true true r = refl
one_waits true false r = refl
one_waits false true r = refl
one_waits false false r = refl

pub waits_are : (setup : Setup) (es : List Happened) (s : LayerState) → Stands setup es s → (id : ℕ) → waits_now s id ≡ waits_at setup es id
unfolding waits_at
waits_are setup es s st id =
    ap (λ g. cond g None (option_map (λ (r : Entry). let w : Entered = record { release = r.release; due = r.due; bios = r.bios } in w) (entry_now s id))) (gone_is setup es s st id)
    ∙ ap (λ o. cond (has_id (issued_ids es) id) None (option_map (λ (r : Entry). let w : Entered = record { release = r.release; due = r.due; bios = r.bios } in w) o)) (entry_there setup es s st id)
    ∙ one_waits (has_id (released_ids es) id) (has_id (issued_ids es) id) (entry_of setup es id)

-- ---- by places

count_issues : (e : Happened) (es : List Happened) → count_by is_issue (e ∷ es) ≡ one_if (is_issue e) + count_by is_issue es
count_issues e es = sum_by-cons (λ (x : Happened). cond (is_issue x) 1 0) e es

past_part : (o : Option (ℕ × ℕ)) (r : ℕ) (es : List Happened) (xs : List Issued) (n : ℕ) → slice_get (cons_option (option_map (issue_in r es) o) xs) (one_if (is_some o) + n) ≡ slice_get xs n
past_part None r es xs n = ap (λ k. slice_get xs k) (let e : 0 + n ≡ n = omega arith in e)
past_part (Some p) r es xs n = ap (λ k. slice_get (issue_in r es p ∷ xs) k) (let e : 1 + n ≡ suc n = omega arith in e)

first_round : (r : ℕ) → r ≡ r + round_of []
unfolding round_of
first_round r = omega arith

issue_at : (r : ℕ) (es : List Happened) (k id tag : ℕ) → At es k (Issue id tag) → slice_get (issues_from r es) (count_by is_issue (take k es)) ≡ Some (issue_in (r + round_at es k) (drop (suc k) es) (id, tag))
unfolding issues_from
issue_at r [] k id tag h = absurd (cc)
issue_at r (x ∷ es) zero id tag h =
    let is : Issue id tag ≡ x = cc in
    let P : Happened → Type 0 = λ e. slice_get (cons_option (option_map (issue_in r es) (issues e)) (issues_from (cond (is_tick e) (r + 1) r) es)) 0 ≡ Some (issue_in (r + round_of []) es (id, tag)) in
    let here : P (Issue id tag) = ap (λ n. Some (issue_in n es (id, tag))) (first_round r) in
    subst P is here
issue_at r (x ∷ es) (suc k) id tag h =
    let next : ℕ = cond (is_tick x) (r + 1) r in
    ap (slice_get (cons_option (option_map (issue_in r es) (issues x)) (issues_from next es))) (count_issues x (take k es))
    ∙ past_part (issues x) r es (issues_from next es) (count_by is_issue (take k es))
    ∙ issue_at next es k id tag h
    ∙ ap (λ n. Some (issue_in n (drop (suc k) es) (id, tag))) (sym (round_cons x (take k es) r))

part_long : (o : Option (ℕ × ℕ)) (r : ℕ) (es : List Happened) (xs : List Issued) → length (cons_option (option_map (issue_in r es) o) xs) ≡ one_if (is_some o) + length xs
part_long None r es xs = omega arith
part_long (Some p) r es xs = omega arith

issues_long : (r : ℕ) (es : List Happened) → length (issues_from r es) ≡ count_by is_issue es
unfolding issues_from
issues_long r [] = refl
issues_long r (x ∷ es) =
    let next : ℕ = cond (is_tick x) (r + 1) r in
    omega (arith, part_long (issues x) r es (issues_from next es), issues_long next es, count_issues x es)

-- what has ended has an end
ends_here : (tag : ℕ) (o : Option ℕ) → option_map_or (λ t. t == tag) o false ≡ true → o ≡ Some tag
ends_here tag None h = absurd (cc)
ends_here tag (Some t) h = ap Some (eqb-true t tag h)

end_found : (tag : ℕ) (es : List Happened) → flies (outcome_of tag es) ≡ false → (j : ℕ) × EndsAt es j tag
unfolding outcome_of
end_found tag [] h = absurd (cc)
end_found tag (e ∷ es) h =
    elim (cases_Bool (is_done_of tag e)) [
      | inl b ↦ (0, (e, refl, ends_here tag (ends e) b))
      | inr b ↦ let p = end_found tag es (sym (ap (λ c. flies (cond c (end_of e) (outcome_of tag es))) b) ∙ h) in (suc p.0, p.1)
    ]

outcome_read : (es : List Happened) (k tag : ℕ) (o : Outcome) → outcome_of tag (drop (suc k) es) ≡ o → IsOutcome es k tag o
outcome_read es k tag outcome.Flying h = λ j l d. still_flies tag (drop (suc k) es) (ap flies h) (j - suc k) (ends_from es k j tag l d)
outcome_read es k tag outcome.Done h =
    let p = end_found tag (drop (suc k) es) (ap flies h) in
    ((suc k + p.0, omega arith, ends_later es k p.0 tag p.1), λ went. both_ways _ (ap was_requeued h) went)
outcome_read es k tag outcome.Back h = ap was_requeued h

pub state_is : (setup : Setup) (es : List Happened) (s : LayerState) → Stands setup es s → IsStateOf setup es s
unfolding entries_of
state_is setup es s st = record {
  events_are = st.events_are;
  round_is = st.round_is;
  depth_is = st.depths.now_is;
  next_depth_is = st.depths.next_is;
  entries_are = st.entries_are;
  each_issued = λ k id tag at. (
    issue_in (0 + round_at es k) (drop (suc k) es) (id, tag),
    ap (λ l. slice_get l (count_by is_issue (take k es))) st.issued_are ∙ issue_at 0 es k id tag at,
    record { stands = at; round_is = omega arith; outcome_is = outcome_read es k tag (outcome_of tag (drop (suc k) es)) refl },
  );
  none_else = ap length st.issued_are ∙ issues_long 0 es;
}
