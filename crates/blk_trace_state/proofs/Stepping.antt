-- A step keeps what a state says of the events that left it.
use Rattle.std.proofs.Common.{◌≡◌, ◌≤◌, ◌+◌, ◌++◌, ◌==◌, ◌∙◌, ◌∷◌, ℕ, List, [], refl, sym, ap, subst, arith, inl, inr, Bool, true, false, map, eqb-true, eq-eqb, count_by}
use Rattle.std.specs.Prelude.{◌&&◌, ◌||◌, not}
use Rattle.std.specs.List.{list_any}
use Rattle.std.proofs.lemmas.Bool.{cases_Bool, or_from, and_parts, and_from, not_from_true, false_from_ne_true}
use Rattle.std.proofs.lemmas.List.Folds.{list_any-append}
use Rattle.blk_bio.specs.declared.bio.BioId.{BioId}
use Rattle.blk_bio.specs.declared.rule.TraceRule.TheVariants as rule
use Rattle.blk_bio.specs.Bios.{Bio}
use Rattle.blk_bio.specs.Requests.{dir_of}
use Rattle.blk_trace.specs.declared.event.Event.TheVariants.{Tick, Release, Join, Issue, Done, Back, Depth}
use Rattle.blk_trace.specs.Happened.{Happened}
use Rattle.blk_trace.specs.Kinds.{is_tick}
use Rattle.blk_trace.specs.Setups.{Setup, expire_of}
use Rattle.blk_trace.specs.Events.{EntersRequest, bios_of, round_of, entered, open_count}
use Rattle.blk_trace.specs.Meaning.{released_ids}
use Rattle.blk_trace.specs.Rules.{BreaksNoRule}
use Rattle.blk_trace.specs.Inside.Kept.{has_bio_id}
use Rattle.blk_trace.proofs.More.{round_more}
use Rattle.blk_trace.proofs.Counting.{one_if}
use Rattle.blk_trace.proofs.Pushing.{empty_legal, none_entered, push_legal}
use Rattle.blk_trace.proofs.Newness.{ids_more}
use Rattle.blk_trace.proofs.Capacities.{depths_empty, depths_kept, depths_ticked, depths_set}
use Rattle.blk_trace.proofs.Room.{longer}
use Rattle.blk_trace.specs.declared.issued.Outcome.{Outcome}
use Rattle.blk_trace.specs.declared.issued.Outcome.TheVariants as outcome
use Rattle.blk_trace.specs.declared.issued.Issued.{Issued}
use Rattle.blk_trace.specs.Issues.{flies}
use Rattle.blk_trace.specs.Inside.Issues.{ended_by}
use Rattle.blk_trace_state.specs.State.{Entry, LayerState, joined_by, start_state, next_state, is_used}
use Rattle.blk_trace_state.specs.Replay.{has_bio}
use Rattle.blk_trace.specs.Issues.{issues_from}
use Rattle.blk_trace.proofs.Issues.{issues_kept, issues_push, issues_ended}
use Rattle.blk_trace_state.proofs.Entering.{entries_of, entries_kept, entries_released, entries_joined, has_entered, bios_joined}
use Rattle.blk_trace_state.proofs.Standing.{Stands, count_first, count_last, none_count, any_either, stays, none_flies, closed_test, used_test, released_test, flying_more, done_more}

-- before the first event
pub stands_start : (setup : Setup) → Stands setup [] (start_state setup)
unfolding entries_of released_ids issues_from open_count round_of
stands_start setup = record {
  legal = empty_legal setup;
  events_are = refl;
  round_is = refl;
  depths = depths_empty setup setup.depth setup.depth refl refl;
  entries_are = refl;
  issued_are = refl;
  bios_are = λ id. ap (λ l. has_bio_id l id) (sym none_entered);
  now = refl;
  once = λ tag. omega arith;
  open_is = refl;
  done_is = refl;
}

-- ---- the round

same_round : (setup : Setup) (es : List Happened) (s : LayerState) → Stands setup es s → (e : Happened) → is_tick e ≡ false → s.round ≡ round_of (es ++ e ∷ [])
same_round setup es s st e h = omega (arith, st.round_is, round_more es e, ap one_if h)

-- ---- the bios

or_none : (x : Bool) → x ≡ (x || false)
or_none true = refl
or_none false = refl

no_bios : (setup : Setup) (es : List Happened) (s : LayerState) → Stands setup es s → (e : Happened) → bios_of e ≡ [] → (id : BioId) → has_entered id s.entries ≡ has_bio_id (entered (es ++ e ∷ [])) id
no_bios setup es s st e h id =
    st.bios_are id ∙ or_none (has_bio_id (entered es) id) ∙ ap (λ l. has_bio_id (entered es) id || has_bio_id l id) (sym h) ∙ sym (ids_more es e id)

-- ---- the Issues

abbrev flies_early : ℕ → Issued → Bool
flies_early round i = flies i.outcome && not (i.round == round)

abbrev flies_under : ℕ → Issued → Bool
flies_under tag i = flies i.outcome && (tag == i.tag)

any_map : (p : Issued → Bool) (f : Issued → Issued) (xs : List Issued) → list_any p (map f xs) ≡ list_any (λ x. p (f x)) xs
any_map p f [] = refl
any_map p f (x ∷ xs) = ap (λ b. p (f x) || b) (any_map p f xs)

less_one : (a b : Bool) → (a ≡ true → b ≡ true) → one_if a ≤ one_if b
less_one true true h = omega arith
less_one true false h = absurd (let y = h refl in cc)
less_one false b h = omega arith

count_less : (p q : Issued → Bool) (f : Issued → Issued) (xs : List Issued) → ((x : Issued) → p (f x) ≡ true → q x ≡ true) → count_by p (map f xs) ≤ count_by q xs
count_less p q f [] h = omega arith
count_less p q f (x ∷ xs) h = omega (arith, count_first p (f x) (map f xs), count_first q x xs, less_one (p (f x)) (q x) (h x), count_less p q f xs h)

-- what an end leaves in flight was in flight
ended_sub : (r : Issued → Bool) (t : ℕ) (n : Outcome) → flies n ≡ false → (x : Issued) → (flies (ended_by t n x).outcome && r (ended_by t n x)) ≡ true → (flies x.outcome && r x) ≡ true
ended_sub r t n none x h =
    let p = and_parts (flies (ended_by t n x).outcome) (r (ended_by t n x)) h in
    subst (λ (y : Issued). (flies y.outcome && r y) ≡ true) (stays t n x none p.0) h

ended_now : (t : ℕ) (n : Outcome) (round : ℕ) (xs : List Issued) → flies n ≡ false → list_any (flies_early round) xs ≡ false → list_any (flies_early round) (map (ended_by t n) xs) ≡ false
ended_now t n round xs none h =
    any_map (flies_early round) (ended_by t n) xs
    ∙ any_either (λ x. flies_early round (ended_by t n x)) (flies_early round) (flies_early round) xs (λ x y. inl (ended_sub (λ i. not (i.round == round)) t n none x y)) h h

ended_once : (t : ℕ) (n : Outcome) (u : ℕ) (xs : List Issued) → flies n ≡ false → count_by (flies_under u) xs ≤ 1 → count_by (flies_under u) (map (ended_by t n) xs) ≤ 1
ended_once t n u xs none h = omega (arith, h, count_less (flies_under u) (flies_under u) (ended_by t n) xs (ended_sub (λ i. u == i.tag) t n none))

-- an Issue in the round, under a tag that was not used in it
issued_now : (s : LayerState) (id tag : ℕ) → list_any (flies_early s.round) s.issued ≡ false → list_any (flies_early s.round) (s.issued ++ record { round = s.round; id = id; tag = tag; outcome = outcome.Flying } ∷ []) ≡ false
issued_now s id tag h =
    let new : Issued = record { round = s.round; id = id; tag = tag; outcome = outcome.Flying } in
    list_any-append (flies_early s.round) s.issued (new ∷ []) ∙ or_from (list_any (flies_early s.round) s.issued) _ h (or_from (flies_early s.round new) false (not_from_true (s.round == s.round) (eq-eqb s.round s.round refl)) refl)

none_under : (s : LayerState) (tag : ℕ) → list_any (flies_early s.round) s.issued ≡ false → is_used s tag ≡ false → list_any (flies_under tag) s.issued ≡ false
none_under s tag early unused =
    any_either (flies_under tag) (flies_early s.round) (λ i. (i.round == s.round) && (tag == i.tag)) s.issued
    (λ x h.
    let p = and_parts (flies x.outcome) (tag == x.tag) h in
    elim (cases_Bool (x.round == s.round)) [
      | inl t ↦ inr (and_from (x.round == s.round) (tag == x.tag) t p.1)
      | inr t ↦ inl (and_from (flies x.outcome) (not (x.round == s.round)) p.0 (ap not t))
    ])
    early unused

issued_once : (s : LayerState) (id tag u : ℕ) → list_any (flies_early s.round) s.issued ≡ false → is_used s tag ≡ false → count_by (flies_under u) s.issued ≤ 1 → count_by (flies_under u) (s.issued ++ record { round = s.round; id = id; tag = tag; outcome = outcome.Flying } ∷ []) ≤ 1
issued_once s id tag u early unused h =
    let new : Issued = record { round = s.round; id = id; tag = tag; outcome = outcome.Flying } in
    let last = count_last (flies_under u) s.issued new in
    elim (cases_Bool (u == tag)) [
      | inl t ↦
          let same : tag ≡ u = sym (eqb-true u tag t) in
          let none : list_any (flies_under u) s.issued ≡ false = subst (λ x. list_any (flies_under x) s.issued ≡ false) same (none_under s tag early unused) in
          omega (arith, last, ap one_if t, none_count (flies_under u) s.issued none)
      | inr t ↦ omega (arith, last, ap one_if t, h)
    ]

-- ---- one event more

next_tick : (setup : Setup) (es : List Happened) (s : LayerState) → Stands setup es s → BreaksNoRule setup es Tick → Stands setup (es ++ Tick ∷ []) (next_state setup s Tick)
next_tick setup es s st all =
    let quiet : list_any (λ (i : Issued). flies i.outcome) s.issued ≡ false = none_flies s ((closed_test setup es s st).1 (all rule.InFlight)) in
    record {
      legal = push_legal setup es Tick st.legal all tt;
      events_are = omega (arith, st.events_are, longer es Tick);
      round_is = omega (arith, st.round_is, round_more es Tick);
      depths = depths_ticked setup es (es ++ Tick ∷ []) s.depth s.next_depth st.depths refl;
      entries_are = st.entries_are ∙ sym (entries_kept setup es Tick refl (λ id. refl));
      issued_are = st.issued_are ∙ sym (issues_kept 0 es Tick refl refl);
      bios_are = no_bios setup es s st Tick refl;
      now = any_either (flies_early (s.round + 1)) (λ (i : Issued). flies i.outcome) (λ (i : Issued). flies i.outcome) s.issued (λ x h. inl (and_parts (flies x.outcome) (not (x.round == s.round + 1)) h).0) quiet quiet;
      once = st.once;
      open_is = flying_more setup es s st Tick tt;
      done_is = done_more setup es s st Tick tt;
    }

next_release : (setup : Setup) (es : List Happened) (s : LayerState) → Stands setup es s → (id : ℕ) (q : List Bio) → BreaksNoRule setup es (Release id q) → EntersRequest (Release id q) → Stands setup (es ++ Release id q ∷ []) (next_state setup s (Release id q))
next_release setup es s st id q all request =
    let e : Happened = Release id q in
    let new : Entry = record { id = id; release = s.round; due = s.round + expire_of setup (dir_of q); bios = q } in
    record {
      legal = push_legal setup es e st.legal all request;
      events_are = omega (arith, st.events_are, longer es e);
      round_is = same_round setup es s st e refl;
      depths = depths_kept setup es (es ++ e ∷ []) e s.depth s.next_depth st.depths refl refl refl;
      entries_are =
          ap (λ l. l ++ new ∷ []) st.entries_are
          ∙ ap (λ (n : ℕ). let r : Entry = record { id = id; release = n; due = n + expire_of setup (dir_of q); bios = q } in entries_of setup es ++ r ∷ []) st.round_is
          ∙ sym (entries_released setup es id q st.legal all);
      issued_are = st.issued_are ∙ sym (issues_kept 0 es e refl refl);
      bios_are = λ x.
          list_any-append (λ (r : Entry). has_bio x r.bios) s.entries (new ∷ [])
          ∙ ap (λ b. has_entered x s.entries || b) (sym (or_none (has_bio x q)))
          ∙ ap (λ b. b || has_bio x q) (st.bios_are x)
          ∙ sym (ids_more es e x);
      now = st.now;
      once = st.once;
      open_is = flying_more setup es s st e tt;
      done_is = done_more setup es s st e tt;
    }

next_join : (setup : Setup) (es : List Happened) (s : LayerState) → Stands setup es s → (id : ℕ) (q : List Bio) → BreaksNoRule setup es (Join id q) → EntersRequest (Join id q) → Stands setup (es ++ Join id q ∷ []) (next_state setup s (Join id q))
next_join setup es s st id q all request =
    let e : Happened = Join id q in
    let there : list_any (λ (r : Entry). r.id == id) s.entries ≡ true = (released_test setup es s st id).1 (all rule.Unknown) in
    record {
      legal = push_legal setup es e st.legal all request;
      events_are = omega (arith, st.events_are, longer es e);
      round_is = same_round setup es s st e refl;
      depths = depths_kept setup es (es ++ e ∷ []) e s.depth s.next_depth st.depths refl refl refl;
      entries_are =
          ap (map (joined_by s.round id q)) st.entries_are
          ∙ ap (λ n. map (joined_by n id q) (entries_of setup es)) st.round_is
          ∙ sym (entries_joined setup es id q st.legal all);
      issued_are = st.issued_are ∙ sym (issues_kept 0 es e refl refl);
      bios_are = λ x.
          bios_joined s.round id q x s.entries
          ∙ ap (λ b. has_entered x s.entries || (b && has_bio x q)) there
          ∙ ap (λ b. b || has_bio x q) (st.bios_are x)
          ∙ sym (ids_more es e x);
      now = st.now;
      once = st.once;
      open_is = flying_more setup es s st e tt;
      done_is = done_more setup es s st e tt;
    }

next_issue : (setup : Setup) (es : List Happened) (s : LayerState) → Stands setup es s → (id tag : ℕ) → BreaksNoRule setup es (Issue id tag) → Stands setup (es ++ Issue id tag ∷ []) (next_state setup s (Issue id tag))
next_issue setup es s st id tag all =
    let e : Happened = Issue id tag in
    let unused : is_used s tag ≡ false = false_from_ne_true (is_used s tag) (λ t. all rule.TagUsed ((used_test setup es s st tag).0 t)) in
    let new : Issued = record { round = s.round; id = id; tag = tag; outcome = outcome.Flying } in
    record {
      legal = push_legal setup es e st.legal all tt;
      events_are = omega (arith, st.events_are, longer es e);
      round_is = same_round setup es s st e refl;
      depths = depths_kept setup es (es ++ e ∷ []) e s.depth s.next_depth st.depths refl refl refl;
      entries_are = st.entries_are ∙ sym (entries_kept setup es e refl (λ id. refl));
      issued_are = ap (λ l. l ++ new ∷ []) st.issued_are ∙ sym (issues_push 0 s.round es id tag (omega (arith, st.round_is)));
      bios_are = no_bios setup es s st e refl;
      now = issued_now s id tag st.now;
      once = λ u. issued_once s id tag u st.now unused (st.once u);
      open_is = flying_more setup es s st e tt;
      done_is = done_more setup es s st e tt;
    }

next_done : (setup : Setup) (es : List Happened) (s : LayerState) → Stands setup es s → (tag : ℕ) → BreaksNoRule setup es (Done tag) → Stands setup (es ++ Done tag ∷ []) (next_state setup s (Done tag))
next_done setup es s st tag all =
    let e : Happened = Done tag in
    record {
      legal = push_legal setup es e st.legal all tt;
      events_are = omega (arith, st.events_are, longer es e);
      round_is = same_round setup es s st e refl;
      depths = depths_kept setup es (es ++ e ∷ []) e s.depth s.next_depth st.depths refl refl refl;
      entries_are = st.entries_are ∙ sym (entries_kept setup es e refl (λ id. refl));
      issued_are = ap (map (ended_by tag outcome.Done)) st.issued_are ∙ sym (issues_ended 0 tag es e refl refl);
      bios_are = no_bios setup es s st e refl;
      now = ended_now tag outcome.Done s.round s.issued refl st.now;
      once = λ u. ended_once tag outcome.Done u s.issued refl (st.once u);
      open_is = flying_more setup es s st e (all rule.NotIssued);
      done_is = done_more setup es s st e (all rule.NotIssued);
    }

next_back : (setup : Setup) (es : List Happened) (s : LayerState) → Stands setup es s → (tag : ℕ) → BreaksNoRule setup es (Back tag) → Stands setup (es ++ Back tag ∷ []) (next_state setup s (Back tag))
next_back setup es s st tag all =
    let e : Happened = Back tag in
    record {
      legal = push_legal setup es e st.legal all tt;
      events_are = omega (arith, st.events_are, longer es e);
      round_is = same_round setup es s st e refl;
      depths = depths_kept setup es (es ++ e ∷ []) e s.depth s.next_depth st.depths refl refl refl;
      entries_are = st.entries_are ∙ sym (entries_kept setup es e refl (λ id. refl));
      issued_are = ap (map (ended_by tag outcome.Back)) st.issued_are ∙ sym (issues_ended 0 tag es e refl refl);
      bios_are = no_bios setup es s st e refl;
      now = ended_now tag outcome.Back s.round s.issued refl st.now;
      once = λ u. ended_once tag outcome.Back u s.issued refl (st.once u);
      open_is = flying_more setup es s st e (all rule.NotIssued);
      done_is = done_more setup es s st e (all rule.NotIssued);
    }

next_depth : (setup : Setup) (es : List Happened) (s : LayerState) → Stands setup es s → (depth : ℕ) → BreaksNoRule setup es (Depth depth) → Stands setup (es ++ Depth depth ∷ []) (next_state setup s (Depth depth))
next_depth setup es s st depth all =
    let e : Happened = Depth depth in
    record {
      legal = push_legal setup es e st.legal all tt;
      events_are = omega (arith, st.events_are, longer es e);
      round_is = same_round setup es s st e refl;
      depths = depths_set setup es (es ++ e ∷ []) s.depth s.next_depth depth st.depths refl;
      entries_are = st.entries_are ∙ sym (entries_kept setup es e refl (λ id. refl));
      issued_are = st.issued_are ∙ sym (issues_kept 0 es e refl refl);
      bios_are = no_bios setup es s st e refl;
      now = st.now;
      once = st.once;
      open_is = flying_more setup es s st e tt;
      done_is = done_more setup es s st e tt;
    }

pub stands_next : (setup : Setup) (es : List Happened) (s : LayerState) → Stands setup es s → (e : Happened) → BreaksNoRule setup es e → EntersRequest e → Stands setup (es ++ e ∷ []) (next_state setup s e)
stands_next setup es s st Tick all request = next_tick setup es s st all
stands_next setup es s st (Release id q) all request = next_release setup es s st id q all request
stands_next setup es s st (Join id q) all request = next_join setup es s st id q all request
stands_next setup es s st (Issue id tag) all request = next_issue setup es s st id tag all
stands_next setup es s st (Done tag) all request = next_done setup es s st tag all
stands_next setup es s st (Back tag) all request = next_back setup es s st tag all
stands_next setup es s st (Depth depth) all request = next_depth setup es s st depth all
