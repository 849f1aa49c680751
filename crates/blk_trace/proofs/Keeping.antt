-- What a trace keeps stays true with one more event.
use Rattle.std.proofs.Common.{◌≡◌, ◌<◌, ◌≤◌, ◌+◌, ◌-◌, ◌++◌, ◌==◌, ◌||◌, inl, inr, option_map, ℕ, zero, suc, List, [], ◌∷◌, length, refl, sym, ◌∙◌, ap, subst, arith, cond, Bool, true, false, Some, None, set, take, map, eqb-true, eq-eqb, length-set}
use Rattle.std.specs.Prelude.{◌&&◌, Option, Result, Ok, Err, replicate}
use Rattle.std.specs.Result.{is_err, OnOk, OnErr}
use Rattle.std.specs.List.{cons_option}
use Rattle.std.proofs.lemmas.Bool.{cases_Bool, and_parts, and_from}
use Rattle.std.proofs.lemmas.List.{length-replicate}
use Rattle.blk_bio.specs.Bios.{Bio}
use Rattle.blk_bio.specs.declared.bio.BioId.{BioId}
use Rattle.blk_bio.specs.Requests.{IsRequest, Fits, dir_of}
use Rattle.blk_bio.specs.declared.request.Side.{Side}
use Rattle.blk_trace.specs.declared.issued.Outcome.TheVariants as outcome
use Rattle.blk_trace.specs.declared.issued.Issued.{Issued}
use Rattle.blk_trace.specs.declared.known.Entry.{Entry}
use Rattle.blk_trace.specs.declared.known.Stage.TheVariants.{Waits, Gone, Requeued}
use Rattle.blk_trace.specs.declared.known.Known.{Known}
use Rattle.blk_trace.specs.declared.trace.Prepared.{Prepared}
use Rattle.blk_trace.specs.declared.trace.Prepared.TheVariants.{Nothing, AnIssue, Bios}
use Rattle.blk_bio.specs.declared.rule.TraceRule.TheVariants.{Fit}
use Rattle.blk_trace.specs.Happened.{Happened, Tick, Release, Join, Issue, Done, Back, Depth}
use Rattle.blk_trace.specs.Kinds.{releases, joins, issues, ends}
use Rattle.blk_trace.specs.Setups.{Setup, IsSetup, expire_of}
use Rattle.blk_trace.specs.Events.{round_of, open_count, entered, bios_of, join_up, request_of, IsOpenBy}
use Rattle.blk_trace.specs.Legal.{IsLegalTrace}
use Rattle.blk_trace.specs.Rules.{BreaksNoRule}
use Rattle.blk_trace.specs.Meaning.{served, issued_ids, released_ids}
use Rattle.blk_trace.specs.Issues.{end_of, flies, issues_from, issues_of}
use Rattle.blk_trace.specs.Inside.Issues.{ended_by}
use Rattle.blk_trace.specs.Waits.{Entered, summary, entered_at, has_id, waits_at}
use Rattle.blk_trace.specs.Traces.{IsPreparedFor}
use Rattle.blk_trace.specs.Inside.Kept.{request_at, IsFlyingAt, tags_of, IsKeptTrace, HasRoom, known_of, has_bio_id, event_room, request_room, bio_room}
use Rattle.blk_trace.proofs.Pushing.{push_legal, empty_legal}
use Rattle.blk_trace.proofs.More.{round_more}
use Rattle.blk_trace.proofs.Room.{open_kept, open_issue, open_end}
use Rattle.blk_trace.proofs.Ids.{released_first}
use Rattle.blk_trace.proofs.Newness.{ids_more}
use Rattle.blk_trace.proofs.Requeues.{open_issued}
use Rattle.std.specs.Prelude.{slice_get}
use Rattle.blk_trace.proofs.Knowing.{known_at, known_kept, known_released, known_joined, known_issued, known_requeued_id}
use Rattle.blk_trace.proofs.Issues.{issues_kept, issues_push, issues_ended, flying_is, set_ended, with_outcome}
use Rattle.blk_trace.proofs.Steady.{AreSteady, steady}
use Rattle.blk_trace.proofs.Last.{ended_tags, last_same, last_empty, last_issued}
use Rattle.blk_trace.proofs.Joining.{join_request}
use Rattle.blk_trace.proofs.Entering.{IsSame, same_entered, HasNothing, nothing_before, IsEntered, entered_released, entered_joined, has_released_same}
use Rattle.blk_trace.proofs.Waiting.{IsThere, there_from, request_there, waits_there}

or_none : (b : Bool) → (b || false) ≡ b
or_none true = refl
or_none false = refl

same_ids : (es : List Happened) (e : Happened) (id : BioId) → bios_of e ≡ [] → has_bio_id (entered (es ++ e ∷ [])) id ≡ has_bio_id (entered es) id
same_ids es e id h = ids_more es e id ∙ ap (λ l. has_bio_id (entered es) id || has_bio_id l id) h ∙ or_none _

-- what was released under an id is a request
abbrev AreRequests : List Happened → Type 0
AreRequests es = (id : ℕ) → has_id (released_ids es) id ≡ true → IsRequest (request_of es id)

requests_kept : (setup : Setup) (es : List Happened) (e : Happened) → releases e ≡ None → joins e ≡ None → AreRequests es → AreRequests (es ++ e ∷ [])
unfolding released_ids
requests_kept setup es e r j old id h =
    let same : IsSame setup es (es ++ e ∷ []) id = same_entered setup es e id (rw (r, j) refl) in
    let was : has_id (released_ids es) id ≡ true = sym (has_released_same es e id (ap (λ o. has_id (cons_option (option_map (λ p. p.0) o) []) id) r)) ∙ h in
    subst IsRequest (sym same.request) (old id was)

requests_released : (setup : Setup) (es : List Happened) (i : ℕ) (bios : List Bio) → IsLegalTrace setup es → BreaksNoRule setup es (Release i bios) → IsRequest bios → AreRequests es → AreRequests (es ++ Release i bios ∷ [])
unfolding released_ids
requests_released setup es i bios legal all some old id h =
    elim (cases_Bool (i == id)) [
      | inl b ↦
          let none : HasNothing setup es id = nothing_before setup es i id bios legal all b in
          let new : IsEntered setup es (es ++ Release i bios ∷ []) id bios = entered_released setup es i id bios b in
          let is : request_of (es ++ Release i bios ∷ []) id ≡ bios = new.request ∙ ap (λ l. join_up l bios) none.request in
          subst IsRequest (sym is) some
      | inr b ↦
          let same : IsSame setup es (es ++ Release i bios ∷ []) id = same_entered setup es (Release i bios) id b in
          let was : has_id (released_ids es) id ≡ true = sym (has_released_same es (Release i bios) id (rw b refl)) ∙ h in
          subst IsRequest (sym same.request) (old id was)
    ]

requests_joined : (setup : Setup) (es : List Happened) (i : ℕ) (bios : List Bio) → BreaksNoRule setup es (Join i bios) → IsRequest bios → AreRequests es → AreRequests (es ++ Join i bios ∷ [])
unfolding released_ids
requests_joined setup es i bios all request old id h =
    let was : has_id (released_ids es) id ≡ true = sym (has_released_same es (Join i bios) id refl) ∙ h in
    elim (cases_Bool (i == id)) [
      | inl b ↦
          let new : IsEntered setup es (es ++ Join i bios ∷ []) id bios = entered_joined setup es i id bios b in
          let f : (x : Side) × Fits setup.limits (request_of es id) bios x = subst (λ (n : ℕ). (x : Side) × Fits setup.limits (request_of es n) bios x) (eqb-true i id b) (all Fit) in
          subst IsRequest (sym new.request) (join_request setup.limits (request_of es id) bios f.0 (old id was) request f.1)
      | inr b ↦
          let same : IsSame setup es (es ++ Join i bios ∷ []) id = same_entered setup es (Join i bios) id b in
          subst IsRequest (sym same.request) (old id was)
    ]

-- the bios of a request that was released
pub entered_request : (setup : Setup) (es : List Happened) (id : ℕ) (w : Entered) → ((id : ℕ) → has_id (released_ids es) id ≡ true → IsRequest (request_of es id)) → request_at setup es id ≡ Some w → IsRequest w.bios
entered_request setup es id w some h =
    let was : IsThere setup es id w = there_from setup es id w h in
    subst IsRequest (sym was.bios_is) (some id was.released)

pub kept_tick : (setup : Setup) (es zs : List Happened) (cs : List Issued) (round opened : ℕ) (known : ℕ → Option Known) (ids : BioId → Bool) (tags : List (Option ℕ))
    → IsKeptTrace setup es cs round opened known ids tags → BreaksNoRule setup es Tick → zs ≡ es ++ Tick ∷ []
    → IsKeptTrace setup zs cs (round + 1) opened known ids tags
kept_tick setup es zs cs round opened known ids tags k all hz =
    let new = push_legal setup es Tick k.legal all tt in
    let P : List Happened → Type 0 = λ l. IsKeptTrace setup l cs (round + 1) opened known ids tags in
    let here : P (es ++ Tick ∷ []) = record {
      ranges = k.ranges;
      legal = new;
      issued_are = k.issued_are ∙ sym (issues_kept 0 es Tick refl refl);
      round_is = omega (arith, k.round_is, round_more es Tick);
      open_is = k.open_is ∙ sym (open_kept es Tick refl refl);
      known_are = λ q. k.known_are q ∙ sym (known_kept setup es Tick refl refl refl refl q);
      requests_are = requests_kept setup es Tick refl refl k.requests_are;
      ids_are = λ id. k.ids_are id ∙ sym (same_ids es Tick id refl);
      tags_are = k.tags_are;
      each_tag = k.each_tag;
    } in
    subst P (sym hz) here

-- after the end of the Issue at a place
pub record IsEndedAt (es : List Happened) (e : Happened) (place : ℕ) (i : Issued) (cs : List Issued) : Type 0 where
  pub issued_are : set cs place (with_outcome i (end_of e)) ≡ issues_of (es ++ e ∷ [])
  pub tags_are : tags_of (set cs place (with_outcome i (end_of e))) ≡ tags_of cs

pub ended_at : (setup : Setup) (es : List Happened) (e : Happened) (tag place : ℕ) (cs : List Issued) → IsLegalTrace setup es → cs ≡ issues_of es → ends e ≡ Some tag → issues e ≡ None → (f : IsFlyingAt cs place tag) → IsEndedAt es e place f.issue cs
ended_at setup es e tag place cs legal are end none f =
    let s : AreSteady cs (round_of es) = subst (λ (l : List Issued). AreSteady l (round_of es)) (sym are) (steady setup es legal) in
    let only : (j : ℕ) (i : Issued) → slice_get cs j ≡ Some i → (flies i.outcome && (tag == i.tag)) ≡ true → j ≡ place = λ j i there b.
    let both = and_parts (flies i.outcome) (tag == i.tag) b in
    s.once j place i f.issue there f.there (s.flies j i there (flying_is i.outcome both.0) ∙ sym (s.flies place f.issue f.there f.flies)) (sym (eqb-true tag i.tag both.1) ∙ sym f.under) in
    let here : (flies f.issue.outcome && (tag == f.issue.tag)) ≡ true = and_from (flies f.issue.outcome) (tag == f.issue.tag) (ap flies f.flies) (eq-eqb tag f.issue.tag (sym f.under)) in
    let now : set cs place (with_outcome f.issue (end_of e)) ≡ map (ended_by tag (end_of e)) cs = set_ended tag (end_of e) cs place f.issue f.there here only in
    record {
      issued_are = now ∙ ap (map (ended_by tag (end_of e))) are ∙ sym (issues_ended 0 tag es e end none);
      tags_are = ap tags_of now ∙ ended_tags tag (end_of e) cs;
    }

pub kept_done : (setup : Setup) (es zs : List Happened) (tag place : ℕ) (i : Issued) (cs : List Issued) (round opened : ℕ) (known : ℕ → Option Known) (ids : BioId → Bool) (tags : List (Option ℕ))
    → IsKeptTrace setup es cs round opened known ids tags → BreaksNoRule setup es (Done tag) → zs ≡ es ++ Done tag ∷ [] → IsEndedAt es (Done tag) place i cs
    → IsKeptTrace setup zs (set cs place (with_outcome i outcome.Done)) round (opened - 1) known ids tags
kept_done setup es zs tag place i cs round opened known ids tags k all hz x =
    let new = push_legal setup es (Done tag) k.legal all tt in
    let P : List Happened → Type 0 = λ l. IsKeptTrace setup l (set cs place (with_outcome i outcome.Done)) round (opened - 1) known ids tags in
    let here : P (es ++ Done tag ∷ []) = record {
      ranges = k.ranges;
      legal = new;
      issued_are = x.issued_are;
      round_is = omega (arith, k.round_is, round_more es (Done tag));
      open_is = omega (arith, k.open_is, open_end es (Done tag) tag refl);
      known_are = λ q. k.known_are q ∙ sym (known_kept setup es (Done tag) refl refl refl refl q);
      requests_are = requests_kept setup es (Done tag) refl refl k.requests_are;
      ids_are = λ id. k.ids_are id ∙ sym (same_ids es (Done tag) id refl);
      tags_are = last_same cs _ tags x.tags_are k.tags_are;
      each_tag = k.each_tag;
    } in
    subst P (sym hz) here

-- after a Back its request waits again
pub kept_back : (setup : Setup) (es zs : List Happened) (tag place id : ℕ) (i : Issued) (cs : List Issued) (round opened : ℕ) (known known' : ℕ → Option Known) (ids : BioId → Bool) (tags : List (Option ℕ))
    → IsKeptTrace setup es cs round opened known ids tags → BreaksNoRule setup es (Back tag) → IsOpenBy es tag id → zs ≡ es ++ Back tag ∷ [] → IsEndedAt es (Back tag) place i cs
    → ((q : ℕ) → known' q ≡ cond (id == q) (Some (known_at Requeued (entered_at setup es id))) (known q))
    → IsKeptTrace setup zs (set cs place (with_outcome i outcome.Back)) round (opened - 1) known' ids tags
kept_back setup es zs tag place id i cs round opened known known' ids tags k all by hz x hk =
    let new = push_legal setup es (Back tag) k.legal all tt in
    let P : List Happened → Type 0 = λ l. IsKeptTrace setup l (set cs place (with_outcome i outcome.Back)) round (opened - 1) known' ids tags in
    let here : P (es ++ Back tag ∷ []) = record {
      ranges = k.ranges;
      legal = new;
      issued_are = x.issued_are;
      round_is = omega (arith, k.round_is, round_more es (Back tag));
      open_is = omega (arith, k.open_is, open_end es (Back tag) tag refl);
      known_are = λ q. hk q ∙ ap (λ x. cond (id == q) (Some (known_at Requeued (entered_at setup es id))) x) (k.known_are q) ∙ sym (known_requeued_id setup es tag id k.legal by (entered_at setup es id) (request_there setup es id (released_first setup es id k.legal (open_issued es tag id by))) q);
      requests_are = requests_kept setup es (Back tag) refl refl k.requests_are;
      ids_are = λ b. k.ids_are b ∙ sym (same_ids es (Back tag) b refl);
      tags_are = last_same cs _ tags x.tags_are k.tags_are;
      each_tag = k.each_tag;
    } in
    subst P (sym hz) here

pub kept_issue : (setup : Setup) (es zs : List Happened) (id tag place : ℕ) (w : Entered) (cs ds : List Issued) (round opened : ℕ) (known known' : ℕ → Option Known) (ids : BioId → Bool) (tags : List (Option ℕ))
    → IsKeptTrace setup es cs round opened known ids tags → BreaksNoRule setup es (Issue id tag) → zs ≡ es ++ Issue id tag ∷ []
    → waits_at setup es id ≡ Some w → place ≡ length cs → ds ≡ cs ++ record { round = round; id = id; tag = tag; outcome = outcome.Flying } ∷ []
    → ((q : ℕ) → known' q ≡ cond (id == q) (Some (known_at Gone w)) (known q))
    → IsKeptTrace setup zs ds round (opened + 1) known' ids (set tags tag (Some place))
kept_issue setup es zs id tag place w cs ds round opened known known' ids tags k all hz waits hp hd hk =
    let new = push_legal setup es (Issue id tag) k.legal all tt in
    let i : Issued = record { round = round; id = id; tag = tag; outcome = outcome.Flying } in
    let P : List Happened → List Issued → Type 0 = λ l is. IsKeptTrace setup l is round (opened + 1) known' ids (set tags tag (Some place)) in
    let here : P (es ++ Issue id tag ∷ []) (cs ++ i ∷ []) = record {
      ranges = k.ranges;
      legal = new;
      issued_are = ap (λ l. l ++ i ∷ []) k.issued_are ∙ sym (issues_push 0 round es id tag (omega (arith, k.round_is)));
      round_is = omega (arith, k.round_is, round_more es (Issue id tag));
      open_is = omega (arith, k.open_is, open_issue setup es id tag k.legal);
      known_are = λ q. hk q ∙ ap (λ x. cond (id == q) (Some (known_at Gone w)) x) (k.known_are q) ∙ sym (known_issued setup es id tag new w (waits_there setup es id w waits).1 q);
      requests_are = requests_kept setup es (Issue id tag) refl refl k.requests_are;
      ids_are = λ b. k.ids_are b ∙ sym (same_ids es (Issue id tag) b refl);
      tags_are = last_issued cs i tags place hp k.tags_are;
      each_tag = length-set tags tag (Some place) ∙ k.each_tag;
    } in
    subst (λ l. P l ds) (sym hz) (subst (λ is. P (es ++ Issue id tag ∷ []) is) (sym hd) here)

pub kept_release : (setup : Setup) (es zs : List Happened) (id : ℕ) (bios : List Bio) (s : Entry) (cs : List Issued) (round opened : ℕ) (known known' : ℕ → Option Known) (ids ids' : BioId → Bool) (tags : List (Option ℕ))
    → IsKeptTrace setup es cs round opened known ids tags → BreaksNoRule setup es (Release id bios) → zs ≡ es ++ Release id bios ∷ [] → IsRequest bios
    → s ≡ summary record { release = round; due = round + expire_of setup (dir_of bios); bios = bios }
    → ((q : ℕ) → known' q ≡ cond (id == q) (Some (record { stage = Waits; entry = s })) (known q)) → ((b : BioId) → ids' b ≡ (ids b || has_bio_id bios b))
    → IsKeptTrace setup zs cs round opened known' ids' tags
kept_release setup es zs id bios s cs round opened known known' ids ids' tags k all hz request hs hk hb =
    let new = push_legal setup es (Release id bios) k.legal all request in
    let P : List Happened → Type 0 = λ l. IsKeptTrace setup l cs round opened known' ids' tags in
    let now : s ≡ summary record { release = round_of es; due = round_of es + expire_of setup (dir_of bios); bios = bios } = hs ∙ ap (λ n. summary record { release = n; due = n + expire_of setup (dir_of bios); bios = bios }) k.round_is in
    let here : P (es ++ Release id bios ∷ []) = record {
      ranges = k.ranges;
      legal = new;
      issued_are = k.issued_are ∙ sym (issues_kept 0 es (Release id bios) refl refl);
      round_is = omega (arith, k.round_is, round_more es (Release id bios));
      open_is = k.open_is ∙ sym (open_kept es (Release id bios) refl refl);
      known_are = λ q. hk q ∙ ap (λ x. cond (id == q) (Some (record { stage = Waits; entry = s })) x) (k.known_are q) ∙ ap (λ x. cond (id == q) (Some (let y : Known = record { stage = Waits; entry = x } in y)) (known_of setup es q)) now ∙ sym (known_released setup es id bios new q);
      requests_are = requests_released setup es id bios k.legal all request k.requests_are;
      ids_are = λ b. hb b ∙ ap (λ x. x || has_bio_id bios b) (k.ids_are b) ∙ sym (ids_more es (Release id bios) b);
      tags_are = k.tags_are;
      each_tag = k.each_tag;
    } in
    subst P (sym hz) here

pub kept_join : (setup : Setup) (es zs : List Happened) (id : ℕ) (bios : List Bio) (w : Entered) (s : Entry) (cs : List Issued) (round opened : ℕ) (known known' : ℕ → Option Known) (ids ids' : BioId → Bool) (tags : List (Option ℕ))
    → IsKeptTrace setup es cs round opened known ids tags → BreaksNoRule setup es (Join id bios) → zs ≡ es ++ Join id bios ∷ [] → IsRequest bios
    → request_at setup es id ≡ Some w → s ≡ summary record { release = round; due = w.due; bios = join_up w.bios bios }
    → ((q : ℕ) → known' q ≡ cond (id == q) (Some (record { stage = Waits; entry = s })) (known q)) → ((b : BioId) → ids' b ≡ (ids b || has_bio_id bios b))
    → IsKeptTrace setup zs cs round opened known' ids' tags
kept_join setup es zs id bios w s cs round opened known known' ids ids' tags k all hz request there hs hk hb =
    let new = push_legal setup es (Join id bios) k.legal all request in
    let P : List Happened → Type 0 = λ l. IsKeptTrace setup l cs round opened known' ids' tags in
    let now : s ≡ summary record { release = round_of es; due = w.due; bios = join_up w.bios bios } = hs ∙ ap (λ n. summary record { release = n; due = w.due; bios = join_up w.bios bios }) k.round_is in
    let here : P (es ++ Join id bios ∷ []) = record {
      ranges = k.ranges;
      legal = new;
      issued_are = k.issued_are ∙ sym (issues_kept 0 es (Join id bios) refl refl);
      round_is = omega (arith, k.round_is, round_more es (Join id bios));
      open_is = k.open_is ∙ sym (open_kept es (Join id bios) refl refl);
      known_are = λ q. hk q ∙ ap (λ x. cond (id == q) (Some (record { stage = Waits; entry = s })) x) (k.known_are q) ∙ ap (λ x. cond (id == q) (Some (let y : Known = record { stage = Waits; entry = x } in y)) (known_of setup es q)) now ∙ sym (known_joined setup es id bios new w there q);
      requests_are = requests_joined setup es id bios all request k.requests_are;
      ids_are = λ b. hb b ∙ ap (λ x. x || has_bio_id bios b) (k.ids_are b) ∙ sym (ids_more es (Join id bios) b);
      tags_are = k.tags_are;
      each_tag = k.each_tag;
    } in
    subst P (sym hz) here

pub kept_depth : (setup : Setup) (es zs : List Happened) (depth : ℕ) (cs : List Issued) (round opened : ℕ) (known : ℕ → Option Known) (ids : BioId → Bool) (tags : List (Option ℕ))
    → IsKeptTrace setup es cs round opened known ids tags → BreaksNoRule setup es (Depth depth) → zs ≡ es ++ Depth depth ∷ []
    → IsKeptTrace setup zs cs round opened known ids tags
kept_depth setup es zs depth cs round opened known ids tags k all hz =
    let new = push_legal setup es (Depth depth) k.legal all tt in
    let P : List Happened → Type 0 = λ l. IsKeptTrace setup l cs round opened known ids tags in
    let here : P (es ++ Depth depth ∷ []) = record {
      ranges = k.ranges;
      legal = new;
      issued_are = k.issued_are ∙ sym (issues_kept 0 es (Depth depth) refl refl);
      round_is = omega (arith, k.round_is, round_more es (Depth depth));
      open_is = k.open_is ∙ sym (open_kept es (Depth depth) refl refl);
      known_are = λ q. k.known_are q ∙ sym (known_kept setup es (Depth depth) refl refl refl refl q);
      requests_are = requests_kept setup es (Depth depth) refl refl k.requests_are;
      ids_are = λ id. k.ids_are id ∙ sym (same_ids es (Depth depth) id refl);
      tags_are = k.tags_are;
      each_tag = k.each_tag;
    } in
    subst P (sym hz) here

-- the trace without events
pub kept_empty : (setup : Setup) (known : ℕ → Option Known) (ids : BioId → Bool) (n : ℕ) → ((q : ℕ) → known q ≡ None) → ((b : BioId) → ids b ≡ false) → n ≡ setup.depth → IsSetup setup → IsKeptTrace setup [] [] 0 0 known ids (replicate n None)
unfolding entered open_count round_of issues_from issued_ids released_ids served known_of request_at
kept_empty setup known ids n hk hb hn is = record {
  ranges = is;
  legal = empty_legal setup;
  issued_are = refl;
  round_is = refl;
  open_is = refl;
  known_are = hk;
  requests_are = λ id h. absurd (cc);
  ids_are = hb;
  tags_are = last_empty n;
  each_tag = length-replicate n None ∙ hn;
}

-- the same where the lists are the same, and the maps by keys
pub kept_same : (setup : Setup) (es es' : List Happened) (cs cs' : List Issued) (round opened : ℕ) (known known' : ℕ → Option Known) (ids ids' : BioId → Bool) (tags : List (Option ℕ))
    → IsKeptTrace setup es cs round opened known ids tags → es' ≡ es → cs' ≡ cs → ((q : ℕ) → known' q ≡ known q) → ((b : BioId) → ids' b ≡ ids b) → IsKeptTrace setup es' cs' round opened known' ids' tags
kept_same setup es es' cs cs' round opened known known' ids ids' tags k he hc hk hb =
    let P : List Happened → List Issued → Type 0 = λ l is. IsKeptTrace setup l is round opened known' ids' tags in
    subst (λ l. P l cs') (sym he) (subst (λ is. P es is) (sym hc) record {
      ranges = k.ranges;
      legal = k.legal;
      issued_are = k.issued_are;
      round_is = k.round_is;
      open_is = k.open_is;
      known_are = λ q. hk q ∙ k.known_are q;
      requests_are = k.requests_are;
      ids_are = λ b. hb b ∙ k.ids_are b;
      tags_are = k.tags_are;
      each_tag = k.each_tag;
    })

pub kept_tags : (setup : Setup) (es : List Happened) (cs : List Issued) (round opened : ℕ) (known : ℕ → Option Known) (ids : BioId → Bool) (tags tags' : List (Option ℕ))
    → IsKeptTrace setup es cs round opened known ids tags → tags' ≡ tags → IsKeptTrace setup es cs round opened known ids tags'
kept_tags setup es cs round opened known ids tags tags' k h = let P : List (Option ℕ) → Type 0 = λ t. IsKeptTrace setup es cs round opened known ids t in subst P (sym h) k

-- the room that is left
pub room_after_tick : (p : Prepared) (n n' o c P P' C K I : ℕ) → IsPreparedFor p Tick → HasRoom p n o c P C K I → n' ≡ n + 1 → P ≤ P' → HasRoom Nothing n' o c P' C K I
room_after_tick Nothing n n' o c P P' C K I h room hn more = absurd h
room_after_tick AnIssue n n' o c P P' C K I h room hn more = record { for_events = omega (arith, room.for_events, hn, more); for_issue = omega (arith, room.for_issue); for_request = omega arith; for_bios = omega arith }
room_after_tick (Bios m) n n' o c P P' C K I h room hn more = absurd h

pub room_after_depth : (p : Prepared) (depth n n' o c P P' C K I : ℕ) → IsPreparedFor p (Depth depth) → HasRoom p n o c P C K I → n' ≡ n + 1 → P ≤ P' → HasRoom Nothing n' o c P' C K I
room_after_depth p depth n n' o c P P' C K I h room hn more = room_after_tick p n n' o c P P' C K I h room hn more

pub room_after_issue : (p : Prepared) (id tag n n' o c c' P P' C C' K K' I : ℕ) → IsPreparedFor p (Issue id tag) → HasRoom p n o c P C K I → n' ≡ n + 1 → c' ≡ c + 1 → P ≤ P' → C ≤ C' → HasRoom Nothing n' (o + 1) c' P' C' K' I
room_after_issue Nothing id tag n n' o c c' P P' C C' K K' I h room hn hc p q = absurd h
room_after_issue AnIssue id tag n n' o c c' P P' C C' K K' I h room hn hc p q = record { for_events = omega (arith, room.for_events, hn, p); for_issue = omega (arith, room.for_issue, hc, q); for_request = omega arith; for_bios = omega arith }
room_after_issue (Bios m) id tag n n' o c c' P P' C C' K K' I h room hn hc p q = absurd h

-- after a Done or a Back, which change their Issue in its place
pub room_after_end : (p : Prepared) (n n' o c c' P P' C C' K K' I : ℕ) → 0 < o → HasRoom p n o c P C K I → n' ≡ n + 1 → P ≤ P' → c' ≡ c → C ≤ C' → HasRoom Nothing n' (o - 1) c' P' C' K' I
room_after_end p n n' o c c' P P' C C' K K' I h room hn more hc kc = record { for_events = omega (arith, room.for_events, hn, more, h); for_issue = omega (arith, room.for_issue, hc, kc); for_request = omega arith; for_bios = omega arith }

-- after a Release, whose event takes the place that was made
pub room_after_entry : (p : Prepared) (n n' o c P P' C K K' I I' : ℕ) → 1 ≤ event_room p → HasRoom p n o c P C K I → n' ≡ n + 1 → P ≤ P' → HasRoom Nothing n' o c P' C K' I'
room_after_entry p n n' o c P P' C K K' I I' h room hn more = record { for_events = omega (arith, room.for_events, hn, more, h); for_issue = omega (arith, room.for_issue); for_request = omega arith; for_bios = omega arith }

pub entry_room : (p : Prepared) (id : ℕ) (bios : List Bio) → IsPreparedFor p (Release id bios) → (1 ≤ event_room p) × (1 ≤ request_room p) × (bio_room p ≡ length bios)
entry_room Nothing id bios h = absurd h
entry_room AnIssue id bios h = absurd h
entry_room (Bios n) id bios h = (omega arith, omega arith, sym h)

pub join_room : (p : Prepared) (id : ℕ) (bios : List Bio) → IsPreparedFor p (Join id bios) → (1 ≤ event_room p) × (1 ≤ request_room p) × (bio_room p ≡ length bios)
join_room Nothing id bios h = absurd h
join_room AnIssue id bios h = absurd h
join_room (Bios n) id bios h = (omega arith, omega arith, sym h)

pub on_ok : {X E : Type 0} (r : Result X E) (P : Type 0) → is_err r ≡ false → OnOk r P → P
on_ok (Ok v) P n h = h
on_ok (Err e) P n h = absurd (cc)

pub on_err : {X E : Type 0} (r : Result X E) (P : Type 0) → is_err r ≡ true → OnErr r P → P
on_err (Ok v) P n h = absurd (cc)
on_err (Err e) P n h = h

taken_none : {X : Type 0} (n : ℕ) → take n (let xs : List X = [] in xs) ≡ []
taken_none zero = refl
taken_none (suc n) = refl

-- an empty list that was grown by copies
pub filled : {X : Type 0} (n : ℕ) (xs : List X) (m : ℕ) (x : X) → xs ≡ [] → m ≡ 0 → take n xs ++ replicate (n - m) x ≡ replicate n x
filled {X} n xs m x hx hm =
    ap (λ (l : List X). take n l ++ replicate (n - m) x) hx ∙ ap (λ (l : List X). l ++ replicate (n - m) x) (taken_none n) ∙ ap (λ k. replicate k x) (let e : n - m ≡ n = omega (arith, hm) in e)
