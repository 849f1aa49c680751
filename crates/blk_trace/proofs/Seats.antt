-- How the tags of the round that is on stand with one more event.
use Rattle.std.proofs.Common.{◌≡◌, ◌↔◌, ◌≤◌, ◌++◌, ◌==◌, ℕ, zero, suc, List, [], ◌∷◌, map, find, refl, sym, ◌∙◌, ap, subst, arith, inl, inr, Some, None, cond, Bool, true, false, eq-eqb, eqb-true, ne_eqb}
use Rattle.std.specs.Prelude.{◌&&◌, IsSome, Option, is_some, option_map, slice_get, ◌⊎◌}
use Rattle.std.specs.Option.{option_or}
use Rattle.std.proofs.lemmas.Bool.{cases_Bool, and_parts, and_from, both_ways}
use Rattle.std.proofs.lemmas.List.Folds.{find-append}
use Rattle.blk_bio.specs.Bios.{Bio}
use Rattle.blk_bio.specs.declared.bio.Dir.{Dir}
use Rattle.blk_bio.specs.Requests.{dir_of}
use Rattle.blk_bio.specs.declared.rule.TraceRule.TheVariants.{TagUsed}
use Rattle.blk_trace.specs.declared.issued.Outcome.{Outcome}
use Rattle.blk_trace.specs.declared.issued.Outcome.TheVariants as outcome
use Rattle.blk_trace.specs.declared.issued.Issued.{Issued}
use Rattle.blk_trace.specs.Happened.{Happened, Tick, Release, Join, Issue}
use Rattle.blk_trace.specs.Kinds.{issues, ends}
use Rattle.blk_trace.specs.Setups.{Setup}
use Rattle.blk_trace.specs.Events.{is_tick, round_of, request_of, IsIssued, IsOpen, IsOpenBy, IsUsed}
use Rattle.blk_trace.specs.Issues.{end_of, issues_of, flies}
use Rattle.blk_trace.specs.Legal.{IsLegalTrace}
use Rattle.blk_trace.specs.Waits.{Entered, waits_at}
use Rattle.blk_trace.specs.Inside.Issues.{ended_by}
use Rattle.blk_trace.specs.Inside.Kept.{IsFlyingAt}
use Rattle.blk_trace.specs.Inside.Seats.{RoundSeat, seat_by, is_under, seat_at}
use Rattle.blk_trace.proofs.Words.{OnlyEnds, only_ends}
use Rattle.blk_trace.proofs.Pushing.{shorter_legal, obeys}
use Rattle.blk_trace.proofs.More.{round_more, round_still}
use Rattle.blk_trace.proofs.Capacities.{tag_below}
use Rattle.blk_trace.proofs.Issues.{issues_kept, issues_push, issues_ended, issue_from, issue_low, was_so, flying_by, flying_is, flying_place, ended_round, ended_id, ended_tag, end_lands, with_outcome}
use Rattle.blk_trace.proofs.Entering.{same_entered, stays_out}
use Rattle.blk_trace.proofs.Waiting.{IsWaiting, waiting_from}
use Rattle.blk_trace.proofs.TagUses.{by_open, open_by}
use Rattle.blk_trace.proofs.Steady.{IsNow, now_used, used_now, AreSteady, steady}

-- ---- the first of a list that passes a test

find_some : (p : Issued → Bool) (xs : List Issued) (x : Issued) → find p xs ≡ Some x → (k : ℕ) × (slice_get xs k ≡ Some x) × (p x ≡ true)
find_some p [] x h = absurd (cc)
find_some p (y ∷ xs) x h =
    elim (cases_Bool (p y)) [
      | inl b ↦
          let one : Some y ≡ Some x = sym (ap (λ c. cond c (Some y) (find p xs)) b) ∙ h in
          let same : y ≡ x = cc in
          (0, one, sym (ap p same) ∙ b)
      | inr b ↦ let q = find_some p xs x (sym (ap (λ c. cond c (Some y) (find p xs)) b) ∙ h) in (suc q.0, q.1, q.2)
    ]

find_none : (p : Issued → Bool) (xs : List Issued) → ((k : ℕ) (x : Issued) → slice_get xs k ≡ Some x → p x ≡ false) → find p xs ≡ None
find_none p [] h = refl
find_none p (y ∷ xs) h = ap (λ c. cond c (Some y) (find p xs)) (h 0 y refl) ∙ find_none p xs (λ k x at. h (suc k) x at)

find_there : (p : Issued → Bool) (xs : List Issued) (k : ℕ) (x : Issued) → slice_get xs k ≡ Some x → p x ≡ true → (y : Issued) × (find p xs ≡ Some y)
find_there p [] k x at h = absurd (cc)
find_there p (y ∷ xs) zero x at h = let same : y ≡ x = cc in (y, ap (λ c. cond c (Some y) (find p xs)) (ap p same ∙ h))
find_there p (y ∷ xs) (suc k) x at h =
    let q = find_there p xs k x at h in
    elim (cases_Bool (p y)) [
      | inl b ↦ (y, ap (λ c. cond c (Some y) (find p xs)) b)
      | inr b ↦ (q.0, ap (λ c. cond c (Some y) (find p xs)) b ∙ q.1)
    ]

choice : (b : Bool) (f : Issued → Issued) (x : Issued) (o : Option Issued) → cond b (Some (f x)) (option_map f o) ≡ option_map f (cond b (Some x) o)
choice true f x o = refl
choice false f x o = refl

find_map : (p : Issued → Bool) (f : Issued → Issued) (xs : List Issued) → ((x : Issued) → p (f x) ≡ p x) → find p (map f xs) ≡ option_map f (find p xs)
find_map p f [] h = refl
find_map p f (x ∷ xs) h = ap (λ c. cond c (Some (f x)) (find p (map f xs))) (h x) ∙ ap (cond (p x) (Some (f x))) (find_map p f xs h) ∙ choice (p x) f x (find p xs)

-- ---- the Issue of a tag in the round that is on

cases_option : {X : Type 0} (o : Option X) → (o ≡ None) ⊎ ((x : X) × (o ≡ Some x))
cases_option None = inl refl
cases_option (Some x) = inr (x, refl)

unfoldable pub found : List Happened → ℕ → Option Issued
found es t = find (is_under (round_of es) t) (issues_of es)

seat_is : (es : List Happened) (t : ℕ) → seat_at es t ≡ option_map (seat_by es) (found es t)
unfolding seat_at found
seat_is es t = refl

found_now : (es : List Happened) (t : ℕ) (i : Issued) → found es t ≡ Some i → IsNow es t i
unfolding found
found_now es t i h =
    let p = find_some (is_under (round_of es) t) (issues_of es) i h in
    let q = and_parts (i.round == round_of es) (t == i.tag) p.2 in
    record { place = p.0; there = p.1; now = eqb-true i.round (round_of es) q.0; under = sym (eqb-true t i.tag q.1) }

now_found : (es : List Happened) (t : ℕ) (i : Issued) → IsNow es t i → (y : Issued) × (found es t ≡ Some y)
unfolding found
now_found es t i n =
    find_there (is_under (round_of es) t) (issues_of es) n.place i n.there (and_from (i.round == round_of es) (t == i.tag) (eq-eqb i.round (round_of es) n.now) (eq-eqb t i.tag (sym n.under)))

none_found : (es : List Happened) (t : ℕ) → (IsUsed es t → ⊥) → found es t ≡ None
none_found es t none = elim (cases_option (found es t)) [ inl h ↦ h | inr p ↦ absurd (none (now_used es t p.0 (found_now es t p.0 p.1))) ]

-- a seat is that of an Issue
pub record IsSeat (es : List Happened) (t : ℕ) (seat : RoundSeat) : Type 0 where
  pub issue : Issued
  pub is_found : found es t ≡ Some issue
  pub now : IsNow es t issue
  pub is : seat_by es issue ≡ seat

pub seat_parts : (es : List Happened) (t : ℕ) (seat : RoundSeat) → seat_at es t ≡ Some seat → IsSeat es t seat
seat_parts es t seat h =
    elim (cases_option (found es t)) [
      | inl n ↦ absurd (let q : seat_at es t ≡ None = seat_is es t ∙ ap (option_map (seat_by es)) n in cc)
      | inr p ↦
          let both : Some (seat_by es p.0) ≡ Some seat = sym (seat_is es t ∙ ap (option_map (seat_by es)) p.1) ∙ h in
          let same : seat_by es p.0 ≡ seat = cc in
          record { issue = p.0; is_found = p.1; now = found_now es t p.0 p.1; is = same }
    ]

-- ---- seats, used tags and open tags

pub seat_used : (es : List Happened) (t : ℕ) → IsSome (seat_at es t) → IsUsed es t
seat_used es t some =
    elim (cases_option (seat_at es t)) [
      | inl none ↦ absurd (let not : is_some (seat_at es t) ≡ is_some {T = RoundSeat} None = ap is_some none in cc)
      | inr seat ↦ let s = seat_parts es t seat.0 seat.1 in now_used es t s.issue s.now
    ]

pub seat_unused : (es : List Happened) (t : ℕ) → seat_at es t ≡ None → IsUsed es t → ⊥
seat_unused es t h u =
    let n = used_now es t u in
    let p = now_found es t n.0 n.1 in
    let some : seat_at es t ≡ Some (seat_by es p.0) = seat_is es t ∙ ap (option_map (seat_by es)) p.1 in
    absurd (cc)

pub free_unused : (es : List Happened) (t : ℕ) → (seat_at es t ≡ None) ↔ (IsUsed es t → ⊥)
free_unused es t = (seat_unused es t, λ none. seat_is es t ∙ ap (option_map (seat_by es)) (none_found es t none))

-- the Issue whose command is in flight
pub seat_flies : (es : List Happened) (t : ℕ) (dir : Dir) → seat_at es t ≡ Some (record { dir = dir; in_flight = true }) → (id : ℕ) × IsOpenBy es t id × (dir_of (request_of es id) ≡ dir)
seat_flies es t dir h =
    let s : IsSeat es t (record { dir = dir; in_flight = true }) = seat_parts es t _ h in
    let i : Issued = s.issue in
    let flying : flies i.outcome ≡ true = ap (λ (x : RoundSeat). x.in_flight) s.is in
    (i.id, subst (λ (n : ℕ). IsOpenBy es n i.id) s.now.under (flying_by es s.now.place i s.now.there (flying_is i.outcome flying)), ap (λ (x : RoundSeat). x.dir) s.is)

pub seat_open : (es : List Happened) (t : ℕ) (dir : Dir) → seat_at es t ≡ Some (record { dir = dir; in_flight = true }) → IsOpen es t
seat_open es t dir h = let p = seat_flies es t dir h in by_open es t p.0 p.1

pub open_seat : (setup : Setup) (es : List Happened) (t : ℕ) → IsLegalTrace setup es → IsOpen es t → (dir : Dir) × (seat_at es t ≡ Some (record { dir = dir; in_flight = true }))
open_seat setup es t legal o =
    let s : AreSteady (issues_of es) (round_of es) = steady setup es legal in
    let p = flying_place es t o.id (open_by es t o) in
    let f : IsFlyingAt (issues_of es) p.0 t = p.1.0 in
    let now : f.issue.round ≡ round_of es = s.flies p.0 f.issue f.there f.flies in
    let y = now_found es t f.issue record { place = p.0; there = f.there; now = now; under = f.under } in
    let n : IsNow es t y.0 = found_now es t y.0 y.1 in
    let same : n.place ≡ p.0 = s.once n.place p.0 y.0 f.issue n.there f.there (n.now ∙ sym now) (n.under ∙ sym f.under) in
    let both : Some y.0 ≡ Some f.issue = sym n.there ∙ ap (slice_get (issues_of es)) same ∙ f.there in
    let one : y.0 ≡ f.issue = cc in
    let flying : flies y.0.outcome ≡ true = ap (λ (i : Issued). flies i.outcome) one ∙ ap flies f.flies in
    (dir_of (request_of es y.0.id), seat_is es t ∙ ap (option_map (seat_by es)) y.1 ∙ ap (λ b. let r : RoundSeat = record { dir = dir_of (request_of es y.0.id); in_flight = b } in Some r) flying)

-- a taken tag is below the depth
pub seat-below : (setup : Setup) (es : List Happened) → IsLegalTrace setup es → (t : ℕ) (seat : RoundSeat) → seat_at es t ≡ Some seat → suc t ≤ setup.depth
seat-below setup es legal t seat h =
    let s : IsSeat es t seat = seat_parts es t seat h in
    let f = issue_from 0 es s.now.place s.issue s.now.there in
    omega (arith, tag_below setup es f.place s.issue.id s.issue.tag legal f.issued, s.now.under)

-- ---- with one more event

-- the requests that were issued stay as they are
seat_same : (setup : Setup) (es : List Happened) (e : Happened) (o : Option Issued) → IsLegalTrace setup (es ++ e ∷ []) → ((i : Issued) → o ≡ Some i → IsIssued es i.id) → option_map (seat_by (es ++ e ∷ [])) o ≡ option_map (seat_by es) o
seat_same setup es e None legal h = refl
seat_same setup es e (Some i) legal h =
    ap (λ r. let s : RoundSeat = record { dir = dir_of r; in_flight = flies i.outcome } in Some s)
    (same_entered setup es e i.id (stays_out setup es e i.id (shorter_legal setup es e legal) (obeys setup es e legal) (h i refl))).request

found_issued : (es : List Happened) (t : ℕ) (i : Issued) → found es t ≡ Some i → IsIssued es i.id
found_issued es t i h = let n = found_now es t i h in was_so es n.place i n.there

seat_kept : (setup : Setup) (es : List Happened) (e : Happened) (t : ℕ) → IsLegalTrace setup (es ++ e ∷ []) → found (es ++ e ∷ []) t ≡ found es t → seat_at (es ++ e ∷ []) t ≡ seat_at es t
seat_kept setup es e t legal same =
    seat_is (es ++ e ∷ []) t ∙ ap (option_map (seat_by (es ++ e ∷ []))) same ∙ seat_same setup es e (found es t) legal (found_issued es t) ∙ sym (seat_is es t)

pub seat-ticked : (setup : Setup) (es : List Happened) → IsLegalTrace setup (es ++ Tick ∷ []) → (t : ℕ) → seat_at (es ++ Tick ∷ []) t ≡ None
unfolding found
seat-ticked setup es legal t =
    let fs : List Happened = es ++ Tick ∷ [] in
    let none : (k : ℕ) (x : Issued) → slice_get (issues_of es) k ≡ Some x → is_under (round_of fs) t x ≡ false = λ k x at.
    ap (λ b. b && (t == x.tag)) (ne_eqb x.round (round_of fs) (λ same. absurd (omega (arith, same, issue_low 0 es k x at, round_more es Tick)))) in
    seat_is fs t ∙ ap (option_map (seat_by fs)) (ap (find (is_under (round_of fs) t)) (issues_kept 0 es Tick refl refl) ∙ find_none (is_under (round_of fs) t) (issues_of es) none)

-- an event that issues and ends nothing leaves the seats
pub seat_quiet : (setup : Setup) (es : List Happened) (e : Happened) → IsLegalTrace setup (es ++ e ∷ []) → is_tick e ≡ false → issues e ≡ None → ends e ≡ None → (t : ℕ) → seat_at (es ++ e ∷ []) t ≡ seat_at es t
unfolding found
seat_quiet setup es e legal h i n t =
    seat_kept setup es e t legal (ap (λ r. find (is_under r t) (issues_of (es ++ e ∷ []))) (round_still es e h) ∙ ap (find (is_under (round_of es) t)) (issues_kept 0 es e i n))

pub seat-released : (setup : Setup) (es : List Happened) (id : ℕ) (bios : List Bio) → IsLegalTrace setup (es ++ Release id bios ∷ []) → (t : ℕ) → seat_at (es ++ Release id bios ∷ []) t ≡ seat_at es t
seat-released setup es id bios legal t = seat_quiet setup es (Release id bios) legal refl refl refl t

pub seat-joined : (setup : Setup) (es : List Happened) (id : ℕ) (bios : List Bio) → IsLegalTrace setup (es ++ Join id bios ∷ []) → (t : ℕ) → seat_at (es ++ Join id bios ∷ []) t ≡ seat_at es t
seat-joined setup es id bios legal t = seat_quiet setup es (Join id bios) legal refl refl refl t

-- an Issue takes its tag
or_none : (o : Option Issued) → option_or o None ≡ o
or_none None = refl
or_none (Some i) = refl

found_issue : (es : List Happened) (id tag t : ℕ) → (i : Issued) × (i.id ≡ id) × (i.outcome ≡ outcome.Flying) × (found (es ++ Issue id tag ∷ []) t ≡ option_or (found es t) (cond (t == tag) (Some i) None))
unfolding found
found_issue es id tag t =
    let i : Issued = record { round = round_of es; id = id; tag = tag; outcome = outcome.Flying } in
    let p : Issued → Bool = is_under (round_of es) t in (
      i,
      refl,
      refl,
      ap (λ r. find (is_under r t) (issues_of (es ++ Issue id tag ∷ []))) (round_still es (Issue id tag) refl)
          ∙ ap (find p) (issues_push 0 (round_of es) es id tag (omega arith))
          ∙ find-append p (issues_of es) (i ∷ [])
          ∙ ap (λ b. option_or (find p (issues_of es)) (cond (b && (t == tag)) (Some i) None)) (eq-eqb (round_of es) (round_of es) refl),
    )

pub seat-issued : (setup : Setup) (es : List Happened) (id tag : ℕ) → IsLegalTrace setup (es ++ Issue id tag ∷ []) → (w : Entered) → waits_at setup es id ≡ Some w → (t : ℕ) → seat_at (es ++ Issue id tag ∷ []) t ≡ cond (tag == t) (Some (record { dir = dir_of w.bios; in_flight = true })) (seat_at es t)
seat-issued setup es id tag legal w waits t =
    let fs : List Happened = es ++ Issue id tag ∷ [] in
    let p = found_issue es id tag t in
    elim (cases_Bool (tag == t)) [
      | inl b ↦
          let same : tag ≡ t = eqb-true tag t b in
          let none : found es t ≡ None = none_found es t (subst (λ n. IsUsed es n → ⊥) same (obeys setup es (Issue id tag) legal TagUsed)) in
          let was : IsWaiting setup es id w = waiting_from setup es id w waits in
          let request : request_of fs p.0.id ≡ w.bios = ap (request_of fs) p.1 ∙ (same_entered setup es (Issue id tag) id refl).request ∙ sym was.bios_is in
          let new : found fs t ≡ Some p.0 = p.3 ∙ ap (λ o. option_or o (cond (t == tag) (Some p.0) None)) none ∙ ap (λ c. cond c (Some p.0) None) (eq-eqb t tag (sym same)) in
          seat_is fs t
          ∙ ap (option_map (seat_by fs)) new
          ∙ ap (λ r. let s : RoundSeat = record { dir = dir_of r; in_flight = flies p.0.outcome } in Some s) request
          ∙ ap (λ o. let s : RoundSeat = record { dir = dir_of w.bios; in_flight = flies o } in Some s) p.2
          ∙ sym (ap (λ c. cond c (Some (let s : RoundSeat = record { dir = dir_of w.bios; in_flight = true } in s)) (seat_at es t)) b)
      | inr b ↦
          let other : (t == tag) ≡ false = ne_eqb t tag (λ same. absurd (let y : (tag == t) ≡ true = eq-eqb tag t (sym same) in both_ways (tag == t) b y)) in
          let kept : found fs t ≡ found es t = p.3 ∙ ap (λ c. option_or (found es t) (cond c (Some p.0) None)) other ∙ or_none (found es t) in
          seat_kept setup es (Issue id tag) t legal kept ∙ sym (ap (λ c. cond c (Some (let s : RoundSeat = record { dir = dir_of w.bios; in_flight = true } in s)) (seat_at es t)) b)
    ]

-- an end leaves its tag taken, and its command no longer in flight
found_ended : (es : List Happened) (e : Happened) (tag t : ℕ) → ends e ≡ Some tag → found (es ++ e ∷ []) t ≡ option_map (ended_by tag (end_of e)) (found es t)
unfolding found
found_ended es e tag t end =
    let only : OnlyEnds e = only_ends e tag end in
    let f : Issued → Issued = ended_by tag (end_of e) in
    let p : Issued → Bool = is_under (round_of es) t in
    ap (λ r. find (is_under r t) (issues_of (es ++ e ∷ []))) (round_still es e only.no_tick)
    ∙ ap (find p) (issues_ended 0 tag es e end only.no_issue)
    ∙ find_map p f (issues_of es) (λ x. ap (λ r. (r == round_of es) && (t == (f x).tag)) (ended_round tag (end_of e) x) ∙ ap (λ u. (x.round == round_of es) && (t == u)) (ended_tag tag (end_of e) x))

landed : (i : Issued) (n : Outcome) (f d : Bool) → flies n ≡ false → d ≡ true → flies i.outcome ≡ f → flies (cond (f && d) (with_outcome i n) i).outcome ≡ false
landed i n true true none h is = none
landed i n true false none h is = absurd (cc)
landed i n false d none h is = is

untouched : (b : Bool) (i : Issued) (n : Outcome) → cond (b && false) (with_outcome i n) i ≡ i
untouched true i n = refl
untouched false i n = refl

others : (tag t : ℕ) (n : Outcome) (o : Option Issued) → (tag == t) ≡ false → ((i : Issued) → o ≡ Some i → i.tag ≡ t) → option_map (ended_by tag n) o ≡ o
others tag t n None b h = refl
others tag t n (Some i) b h =
    let other : (tag == i.tag) ≡ false = ap (λ u. tag == u) (h i refl) ∙ b in
    ap Some (ap (λ c. cond (flies i.outcome && c) (with_outcome i n) i) other ∙ untouched (flies i.outcome) i n)

pub seat_ended : (setup : Setup) (es : List Happened) (e : Happened) (tag : ℕ) → IsLegalTrace setup (es ++ e ∷ []) → ends e ≡ Some tag → (seat : RoundSeat) → seat_at es tag ≡ Some seat → (t : ℕ) → seat_at (es ++ e ∷ []) t ≡ cond (tag == t) (Some (record { dir = seat.dir; in_flight = false })) (seat_at es t)
seat_ended setup es e tag legal end seat taken t =
    let fs : List Happened = es ++ e ∷ [] in
    let n : Outcome = end_of e in
    let s : IsSeat es tag seat = seat_parts es tag seat taken in
    let i : Issued = s.issue in
    let last : Issued = ended_by tag n i in
    let yes : (tag == i.tag) ≡ true = eq-eqb tag i.tag (sym s.now.under) in
    let none : flies last.outcome ≡ false = landed i n (flies i.outcome) (tag == i.tag) (end_lands e) yes refl in
    let request : request_of fs last.id ≡ request_of es i.id = ap (request_of fs) (ended_id tag n i) ∙ (same_entered setup es e i.id (stays_out setup es e i.id (shorter_legal setup es e legal) (obeys setup es e legal) (found_issued es tag i s.is_found))).request in
    let dir : dir_of (request_of fs last.id) ≡ seat.dir = ap dir_of request ∙ ap (λ (x : RoundSeat). x.dir) s.is in
    let here : seat_at fs tag ≡ Some (record { dir = seat.dir; in_flight = false }) =
    seat_is fs tag ∙ ap (option_map (seat_by fs)) (found_ended es e tag tag end ∙ ap (option_map (ended_by tag n)) s.is_found) ∙ (rw (dir, none) refl) in
    elim (cases_Bool (tag == t)) [
      | inl b ↦ subst (λ k. seat_at fs k ≡ Some (record { dir = seat.dir; in_flight = false })) (eqb-true tag t b) here ∙ sym (rw b refl)
      | inr b ↦
          let kept : found fs t ≡ found es t = found_ended es e tag t end ∙ others tag t n (found es t) b (λ x h. (found_now es t x h).under) in
          seat_kept setup es e t legal kept ∙ sym (rw b refl)
    ]
