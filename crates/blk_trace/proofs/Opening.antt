-- How many commands of each direction are in flight after one more event.
use Rattle.std.proofs.Common.{◌≡◌, ◌<◌, ◌≤◌, ◌+◌, ◌++◌, ℕ, suc, List, [], ◌∷◌, length, get_or, refl, sym, ◌∙◌, ap, subst, arith, inl, inr, Some, None, cond, Bool, true, false, length-append}
use Rattle.std.specs.Prelude.{count_by, filter, slice_get, All, ◌↔◌, IsTrue}
use lib.Dec.{ltb}
use Rattle.std.proofs.lemmas.List.Elements.{filter-append, All-filter}
use Rattle.std.proofs.lemmas.Option.{slice_get-get_or}
use Rattle.std.proofs.lemmas.Bool.{cases_Bool, ltb-true, lt-ltb, false_from_ne_true}
use Rattle.std.proofs.lemmas.List.Sums.{sum_by-cons, sum_by-append}
use Rattle.blk_bio.specs.Bios.{Bio}
use Rattle.blk_bio.specs.declared.bio.Dir.{Dir}
use Rattle.blk_bio.specs.declared.bio.Dir.TheVariants.{Read, Write}
use Rattle.blk_bio.specs.Requests.{dir_of}
use Rattle.blk_bio.specs.declared.rule.TraceRule.TheVariants.{NotIssued, InFlight}
use Rattle.blk_trace.specs.declared.issued.Outcome.TheVariants as outcome
use Rattle.blk_trace.specs.declared.issued.Issued.{Issued}
use Rattle.blk_trace.specs.Happened.{Happened, Tick, Release, Join, Issue, Done, Back}
use Rattle.blk_trace.specs.Kinds.{issues, ends, is_issue, is_end}
use Rattle.blk_trace.specs.Setups.{Setup, same_dir}
use Rattle.blk_trace.specs.Events.{round_of, open_count, request_of, IsOpen, IsOpenBy}
use Rattle.blk_trace.specs.Issues.{end_of, issues_from, issues_of, flies, flying}
use Rattle.blk_trace.specs.Legal.{IsLegalTrace}
use Rattle.blk_trace.specs.Rules.{BreaksNoRule}
use Rattle.blk_trace.specs.Waits.{Entered, waits_at}
use Rattle.blk_trace.specs.Inside.Seats.{seat_at, flying_of}
use Rattle.blk_trace.proofs.Words.{OnlyEnds, only_ends}
use Rattle.blk_trace.proofs.Pushing.{shorter_legal, obeys}
use Rattle.blk_trace.proofs.More.{more_of}
use Rattle.blk_trace.proofs.Ids.{by_legal}
use Rattle.blk_trace.proofs.Issues.{issues_kept, issues_push, flying_by, flying_is, was_so, with_outcome, end_lands}
use Rattle.blk_trace.proofs.Entering.{same_entered, stays_out}
use Rattle.blk_trace.proofs.Waiting.{waiting_from}
use Rattle.blk_trace.proofs.Seats.{seat_flies}
use Rattle.blk_trace.proofs.TagUses.{by_open}
use Rattle.blk_trace.proofs.Requeuing.{EndsOne, ends_one, open_by}
use Rattle.blk_trace.proofs.Counting.{one_if}

-- the commands in flight of a direction, by their Issues
abbrev is_of : List Happened → Dir → Issued → Bool
is_of es d i = same_dir d (dir_of (request_of es i.id))

in_flight : (es : List Happened) (d : Dir) → flying_of es d ≡ count_by (is_of es d) (flying (issues_of es))
unfolding flying_of
in_flight es d = refl

count_first : (p : Issued → Bool) (i : Issued) (xs : List Issued) → count_by p (i ∷ xs) ≡ one_if (p i) + count_by p xs
count_first p i xs = sum_by-cons (λ (x : Issued). cond (p x) 1 0) i xs

count_both : (p : Issued → Bool) (xs ys : List Issued) → count_by p (xs ++ ys) ≡ count_by p xs + count_by p ys
count_both p xs ys = sum_by-append (λ (x : Issued). cond (p x) 1 0) xs ys

agree : (p q : Issued → Bool) (xs : List Issued) → All (λ i. p i ≡ q i) xs → count_by p xs ≡ count_by q xs
agree p q [] h = refl
agree p q (x ∷ xs) h =
    let here : one_if (p x) ≡ one_if (q x) = ap one_if (h 0 x (omega arith)) in
    omega (arith, count_first p x xs, count_first q x xs, agree p q xs (λ k d l. h (suc k) d (omega arith)))

-- the requests that were issued stay as they are
still_of : (setup : Setup) (es : List Happened) (e : Happened) (d : Dir) → IsLegalTrace setup (es ++ e ∷ []) → count_by (is_of (es ++ e ∷ []) d) (flying (issues_of es)) ≡ count_by (is_of es d) (flying (issues_of es))
still_of setup es e d legal =
    let P : Issued → Type 0 = λ i. is_of (es ++ e ∷ []) d i ≡ is_of es d i in
    agree (is_of (es ++ e ∷ []) d) (is_of es d) (flying (issues_of es))
    (All-filter (λ (i : Issued). flies i.outcome) P (issues_of es) (λ k x h.
    let i : Issued = get_or (issues_of es) k x in
    ap (λ r. same_dir d (dir_of r)) (same_entered setup es e i.id (stays_out setup es e i.id (shorter_legal setup es e legal) (obeys setup es e legal) (was_so es k i (slice_get-get_or (issues_of es) k x h)))).request))

-- an event that issues and ends nothing leaves what is in flight
pub open_kept : (setup : Setup) (events : List Happened) (e : Happened) → IsLegalTrace setup (events ++ e ∷ []) → issues e ≡ None → ends e ≡ None → (d : Dir) → flying_of (events ++ e ∷ []) d ≡ flying_of events d
open_kept setup events e legal i n d =
    in_flight (events ++ e ∷ []) d ∙ ap (λ l. count_by (is_of (events ++ e ∷ []) d) (flying l)) (issues_kept 0 events e i n) ∙ still_of setup events e d legal ∙ sym (in_flight events d)

pub open-released : (setup : Setup) (events : List Happened) (id : ℕ) (bios : List Bio) → IsLegalTrace setup (events ++ Release id bios ∷ []) → (d : Dir) → flying_of (events ++ Release id bios ∷ []) d ≡ flying_of events d
open-released setup events id bios legal d = open_kept setup events (Release id bios) legal refl refl d

pub open-joined : (setup : Setup) (events : List Happened) (id : ℕ) (bios : List Bio) → IsLegalTrace setup (events ++ Join id bios ∷ []) → (d : Dir) → flying_of (events ++ Join id bios ∷ []) d ≡ flying_of events d
open-joined setup events id bios legal d = open_kept setup events (Join id bios) legal refl refl d

-- none is at a Tick
none_pass : (p : Issued → Bool) (xs : List Issued) → All (λ i. p i ≡ false) xs → filter p xs ≡ []
none_pass p [] h = refl
none_pass p (x ∷ xs) h = ap (λ b. cond b (x ∷ filter p xs) (filter p xs)) (h 0 x (omega arith)) ∙ none_pass p xs (λ k d l. h (suc k) d (omega arith))

none_flies : (setup : Setup) (es : List Happened) → IsLegalTrace setup (es ++ Tick ∷ []) → flying (issues_of es) ≡ []
none_flies setup es legal = none_pass (λ i. flies i.outcome) (issues_of es) (λ k x h.
    let i : Issued = get_or (issues_of es) k x in
    false_from_ne_true (flies i.outcome) (λ b. absurd (obeys setup es Tick legal InFlight i.tag (by_open es i.tag i.id (flying_by es k i (slice_get-get_or (issues_of es) k x h) (flying_is i.outcome b))))))

pub open-before_tick : (setup : Setup) (events : List Happened) → IsLegalTrace setup (events ++ Tick ∷ []) → (d : Dir) → flying_of events d ≡ 0
open-before_tick setup events legal d = in_flight events d ∙ ap (count_by (is_of events d)) (none_flies setup events legal)

pub open-ticked : (setup : Setup) (events : List Happened) → IsLegalTrace setup (events ++ Tick ∷ []) → (d : Dir) → flying_of (events ++ Tick ∷ []) d ≡ 0
open-ticked setup events legal d = open_kept setup events Tick legal refl refl d ∙ open-before_tick setup events legal d

-- an Issue is in flight after the others
flying_push : (es : List Happened) (id tag : ℕ) → (new : Issued) × (new.id ≡ id) × (flying (issues_of (es ++ Issue id tag ∷ [])) ≡ flying (issues_of es) ++ new ∷ [])
flying_push es id tag =
    let new : Issued = record { round = round_of es; id = id; tag = tag; outcome = outcome.Flying } in
    (new, refl, ap flying (issues_push 0 (round_of es) es id tag (omega arith)) ∙ filter-append (λ i. flies i.outcome) (issues_of es) (new ∷ []))

pub open-issued : (setup : Setup) (events : List Happened) (id tag : ℕ) → IsLegalTrace setup (events ++ Issue id tag ∷ []) → (w : Entered) → waits_at setup events id ≡ Some w → (d : Dir) → flying_of (events ++ Issue id tag ∷ []) d ≡ flying_of events d + cond (same_dir d (dir_of w.bios)) 1 0
open-issued setup events id tag legal w waits d =
    let fs : List Happened = events ++ Issue id tag ∷ [] in
    let push = flying_push events id tag in
    let was = waiting_from setup events id w waits in
    let same = same_entered setup events (Issue id tag) id refl in
    let more : count_by (is_of fs d) (flying (issues_of events) ++ push.0 ∷ []) ≡ count_by (is_of fs d) (flying (issues_of events)) + count_by (is_of fs d) (push.0 ∷ []) = count_both (is_of fs d) (flying (issues_of events)) (push.0 ∷ []) in
    let here : one_if (is_of fs d push.0) ≡ one_if (same_dir d (dir_of w.bios)) = ap (λ n. one_if (same_dir d (dir_of (request_of fs n)))) push.1 ∙ ap (λ r. one_if (same_dir d (dir_of r))) (same.request ∙ sym was.bios_is) in
    omega (arith, in_flight fs d, ap (count_by (is_of fs d)) push.2, count_first (is_of fs d) push.0 [], still_of setup events (Issue id tag) d legal, in_flight events d)

-- the Issue that an event ends is no longer in flight
record LosesFlight (xs ys : List Issued) (id : ℕ) : Type 0 where
  before : List Issued
  after : List Issued
  issue : Issued
  named : issue.id ≡ id
  were : flying xs ≡ before ++ issue ∷ after
  are : flying ys ≡ before ++ after

loses_flight : (setup : Setup) (es : List Happened) (e : Happened) (t id : ℕ) → IsLegalTrace setup es → IsOpenBy es t id → ends e ≡ Some t → LosesFlight (issues_of es) (issues_of (es ++ e ∷ [])) id
loses_flight setup es e t id legal o end =
    let p : EndsOne (issues_of es) (issues_of (es ++ e ∷ [])) id (end_of e) = ends_one setup es e t id legal o end in
    let i : Issued = p.issue in
    record {
      before = flying p.before;
      after = flying p.after;
      issue = i;
      named = p.named;
      were = ap flying p.whole ∙ filter-append (λ i. flies i.outcome) p.before (i ∷ p.after) ∙ ap (λ o. flying p.before ++ cond (flies o) (i ∷ flying p.after) (flying p.after)) p.flying;
      are = ap flying p.now ∙ filter-append (λ i. flies i.outcome) p.before (with_outcome i (end_of e) ∷ p.after)
          ∙ ap (λ b. flying p.before ++ cond b (with_outcome i (end_of e) ∷ flying p.after) (flying p.after)) (end_lands e);
    }

pub open_ended : (setup : Setup) (events : List Happened) (e : Happened) (tag : ℕ) → IsLegalTrace setup (events ++ e ∷ []) → ends e ≡ Some tag → (dir : Dir) → seat_at events tag ≡ Some (record { dir = dir; in_flight = true }) → (d : Dir) → flying_of (events ++ e ∷ []) d + cond (same_dir d dir) 1 0 ≡ flying_of events d
open_ended setup events e tag legal end dir taken_is d =
    let fs : List Happened = events ++ e ∷ [] in
    let old = shorter_legal setup events _ legal in
    let only : OnlyEnds e = only_ends e tag end in
    let was = seat_flies events tag dir taken_is in
    let p = loses_flight setup events e tag was.0 old was.1 end in
    let f : Issued → Bool = is_of fs d in
    let here : one_if (f p.issue) ≡ one_if (same_dir d dir) = ap (λ n. one_if (same_dir d (dir_of (request_of fs n)))) p.named
    ∙ ap (λ r. one_if (same_dir d (dir_of r))) (same_entered setup events e was.0 (rw (only.no_release, only.no_join) refl)).request
    ∙ ap (λ x. one_if (same_dir d x)) was.2 in
    let were : count_by f (flying (issues_of events)) ≡ count_by f p.before + (one_if (f p.issue) + count_by f p.after) = ap (count_by f) p.were ∙ count_both f p.before (p.issue ∷ p.after) ∙ ap (λ n. count_by f p.before + n) (count_first f p.issue p.after) in
    let are : flying_of fs d ≡ count_by f p.before + count_by f p.after = in_flight fs d ∙ ap (count_by f) p.are ∙ count_both f p.before p.after in
    omega (arith, still_of setup events e d legal, in_flight events d)

-- all that are in flight are the Issues less those that have ended
all_ended : (setup : Setup) (es : List Happened) (e : Happened) (t : ℕ) → ends e ≡ Some t → is_end e ≡ true → is_issue e ≡ false → IsLegalTrace setup es → IsOpen es t → length (flying (issues_of es)) + count_by is_end es ≡ count_by is_issue es → length (flying (issues_of (es ++ e ∷ []))) + count_by is_end (es ++ e ∷ []) ≡ count_by is_issue (es ++ e ∷ [])
all_ended setup es e t end over no_issue old o ih =
    let p = loses_flight setup es e t o.id old (open_by es t o) end in
    let one : one_if (is_end e) ≡ 1 = ap one_if over in
    let none : one_if (is_issue e) ≡ 0 = ap one_if no_issue in
    omega (arith, ap length p.were, ap length p.are, length-append p.before (p.issue ∷ p.after), length-append p.before p.after, more_of is_end es e, more_of is_issue es e)

all_step : (setup : Setup) (es : List Happened) (e : Happened) → IsLegalTrace setup es → BreaksNoRule setup es e → length (flying (issues_of es)) + count_by is_end es ≡ count_by is_issue es → length (flying (issues_of (es ++ e ∷ []))) + count_by is_end (es ++ e ∷ []) ≡ count_by is_issue (es ++ e ∷ [])
all_step setup es (Issue i t) old all ih =
    let push = flying_push es i t in
    omega (arith, ap length push.2, length-append (flying (issues_of es)) (push.0 ∷ []), more_of is_end es (Issue i t), more_of is_issue es (Issue i t))
all_step setup es (Done t) old all ih = all_ended setup es (Done t) t refl refl refl old (all NotIssued) ih
all_step setup es (Back t) old all ih = all_ended setup es (Back t) t refl refl refl old (all NotIssued) ih
all_step setup es e old all ih = omega (arith, ap (λ l. length (flying l)) (issues_kept 0 es e refl refl), more_of is_end es e, more_of is_issue es e)

pub open_all : (setup : Setup) (events : List Happened) → IsLegalTrace setup events → length (flying (issues_of events)) + count_by is_end events ≡ count_by is_issue events
unfolding issues_from
open_all setup events legal = by_legal setup (λ l. length (flying (issues_of l)) + count_by is_end l ≡ count_by is_issue l) refl (λ l e new old all ih. all_step setup l e old all ih) events legal

one_dir : (d : Dir) → one_if (same_dir Read d) + one_if (same_dir Write d) ≡ 1
one_dir Read = refl
one_dir Write = refl

each_once : (es : List Happened) (xs : List Issued) → count_by (is_of es Read) xs + count_by (is_of es Write) xs ≡ length xs
each_once es [] = refl
each_once es (x ∷ xs) = omega (arith, count_first (is_of es Read) x xs, count_first (is_of es Write) x xs, one_dir (dir_of (request_of es x.id)), each_once es xs)

pub open-both : (setup : Setup) (events : List Happened) → IsLegalTrace setup events → flying_of events Read + flying_of events Write ≡ open_count events
unfolding open_count
open-both setup events legal = omega (arith, in_flight events Read, in_flight events Write, each_once events (flying (issues_of events)), open_all setup events legal)

-- where a tag is open, a command is in flight
pub open_positive : (setup : Setup) (events : List Happened) (tag : ℕ) → IsLegalTrace setup events → IsOpen events tag → 0 < open_count events
unfolding open_count
open_positive setup events tag legal o =
    let p = loses_flight setup events (Done tag) tag o.id legal (open_by events tag o) refl in
    omega (arith, ap length p.were, length-append p.before (p.issue ∷ p.after), open_all setup events legal)

-- and where a command is in flight, a tag is open
passing : (p : Issued → Bool) (xs : List Issued) → 0 < length (filter p xs) → (k : ℕ) × (i : Issued) × (slice_get xs k ≡ Some i) × (p i ≡ true)
passing p [] some = absurd (omega arith)
passing p (x ∷ xs) some =
    elim (cases_Bool (p x)) [
      | inl b ↦ (0, x, refl, b)
      | inr b ↦ let q = passing p xs (subst (λ c. 0 < length (cond c (x ∷ filter p xs) (filter p xs))) b some) in (suc q.0, q.1, q.2, q.3)
    ]

open_one : (setup : Setup) (events : List Happened) → IsLegalTrace setup events → 0 < open_count events → (tag : ℕ) × IsOpen events tag
unfolding open_count
open_one setup events legal some =
    let q = passing (λ i. flies i.outcome) (issues_of events) (omega (arith, open_all setup events legal)) in
    let i : Issued = q.1 in
    (i.tag, by_open events i.tag i.id (flying_by events q.0 i q.2 (flying_is i.outcome q.3)))

pub open_by_count : (setup : Setup) (events : List Happened) (n : ℕ) → IsLegalTrace setup events → n ≡ open_count events → IsTrue (ltb 0 n) ↔ ((tag : ℕ) × IsOpen events tag)
open_by_count setup events n legal is = (
  λ t. open_one setup events legal (let some : 0 < n = ltb-true 0 n t in omega (arith, is, some)),
  λ o. lt-ltb 0 n (let some = open_positive setup events o.0 legal o.1 in omega (arith, is, some)),
)

-- a legal list ends no more Issues than it has
pub open_issues : (setup : Setup) (events : List Happened) → IsLegalTrace setup events → count_by is_end events ≤ count_by is_issue events
open_issues setup events legal = omega (arith, open_all setup events legal)
