-- Which requests may still be joined after one more event: those that wait and were never issued.
use Rattle.std.proofs.Common.{◌≡◌, ◌+◌, ◌++◌, ◌==◌, ℕ, List, [], ◌∷◌, refl, sym, ◌∙◌, ap, subst, Some, None, cond, Bool, true, false, eqb-true}
use Rattle.std.specs.Prelude.{◌||◌, Option}
use Rattle.std.specs.Option.{option_map_or}
use Rattle.blk_bio.specs.Bios.{Bio}
use Rattle.blk_bio.specs.Requests.{dir_of}
use Rattle.blk_bio.specs.declared.rule.TraceRule.TheVariants.{ReleasedTwice, AlreadyIssued}
use Rattle.blk_trace.specs.Happened.{Happened, Tick, Release, Join, Issue, Done}
use Rattle.blk_trace.specs.Kinds.{releases, joins, issues, requeues}
use Rattle.blk_trace.specs.Setups.{Setup, expire_of}
use Rattle.blk_trace.specs.Events.{round_of, join_up}
use Rattle.blk_trace.specs.Legal.{IsLegalTrace}
use Rattle.blk_trace.specs.Waits.{Entered, waits_at, was_issued, unissued_at}
use Rattle.blk_trace.proofs.More.{was_issued_more}
use Rattle.blk_trace.proofs.Pushing.{shorter_legal, obeys}
use Rattle.blk_trace.proofs.Ids.{never_was, released_first}
use Rattle.blk_trace.proofs.Waiting.{put_off, waits_kept, waits-released, waits-joined, waits-issued}

pub unissued_is : (setup : Setup) (es : List Happened) (id : ℕ) (b : Bool) (o : Option Entered) → was_issued es id ≡ b → waits_at setup es id ≡ o → unissued_at setup es id ≡ cond b None o
unfolding unissued_at
unissued_is setup es id b o h w = ap (λ x. cond x None (waits_at setup es id)) h ∙ ap (λ x. cond b None x) w

by_test : (b : Bool) (o : Option Entered) (w : Entered) → cond b None o ≡ Some w → (b ≡ false) × (o ≡ Some w)
by_test true o w h = absurd (cc)
by_test false o w h = (refl, h)

-- a request that may be joined waits, and was never issued
pub unissued_from : (setup : Setup) (es : List Happened) (id : ℕ) (w : Entered) → unissued_at setup es id ≡ Some w → (was_issued es id ≡ false) × (waits_at setup es id ≡ Some w)
unissued_from setup es id w h = by_test (was_issued es id) (waits_at setup es id) w (sym (unissued_is setup es id _ _ refl refl) ∙ h)

or_no : (x y : Bool) → y ≡ false → (x || y) ≡ x
or_no true y h = refl
or_no false y h = h

pub was_same : (es : List Happened) (e : Happened) (id : ℕ) → option_map_or (λ p. p.0 == id) (issues e) false ≡ false → was_issued (es ++ e ∷ []) id ≡ was_issued es id
was_same es e id h = was_issued_more es e id ∙ or_no _ _ h

pub was_kept : (es : List Happened) (e : Happened) (id : ℕ) → issues e ≡ None → was_issued (es ++ e ∷ []) id ≡ was_issued es id
was_kept es e id h = was_same es e id (ap (λ o. option_map_or (λ p. p.0 == id) o false) h)

pub unissued_kept : (setup : Setup) (events : List Happened) (e : Happened) → releases e ≡ None → joins e ≡ None → issues e ≡ None → requeues e ≡ None → (q : ℕ) → unissued_at setup (events ++ e ∷ []) q ≡ unissued_at setup events q
unissued_kept setup events e r j i n q =
    unissued_is setup (events ++ e ∷ []) q _ _ (was_kept events e q i) (waits_kept setup events e r j i n q) ∙ sym (unissued_is setup events q _ _ refl refl)

pub unissued-released : (setup : Setup) (events : List Happened) (id : ℕ) (bios : List Bio) → IsLegalTrace setup (events ++ Release id bios ∷ []) → (q : ℕ) → unissued_at setup (events ++ Release id bios ∷ []) q ≡ cond (id == q) (Some (record { release = round_of events; due = round_of events + expire_of setup (dir_of bios); bios = bios })) (unissued_at setup events q)
unissued-released setup events id bios legal q =
    let e : Happened = Release id bios in
    let old = shorter_legal setup events e legal in
    let fresh : was_issued events id ≡ false = never_was events id (λ p. obeys setup events e legal ReleasedTwice (released_first setup events id old p)) in
    unissued_is setup (events ++ e ∷ []) q _ _ (was_kept events e q refl) (waits-released setup events id bios legal q)
    ∙ put_off (id == q) (was_issued events q) _ (waits_at setup events q) (λ t. subst (λ n. was_issued events n ≡ false) (eqb-true id q t) fresh)
    ∙ ap (λ o. cond (id == q) (Some (record { release = round_of events; due = round_of events + expire_of setup (dir_of bios); bios = bios })) o) (sym (unissued_is setup events q _ _ refl refl))

pub unissued-joined : (setup : Setup) (events : List Happened) (id : ℕ) (bios : List Bio) → IsLegalTrace setup (events ++ Join id bios ∷ []) → (w : Entered) → waits_at setup events id ≡ Some w → (q : ℕ) → unissued_at setup (events ++ Join id bios ∷ []) q ≡ cond (id == q) (Some (record { release = round_of events; due = w.due; bios = join_up w.bios bios })) (unissued_at setup events q)
unissued-joined setup events id bios legal w waits q =
    let e : Happened = Join id bios in
    let fresh : was_issued events id ≡ false = never_was events id (obeys setup events e legal AlreadyIssued) in
    unissued_is setup (events ++ e ∷ []) q _ _ (was_kept events e q refl) (waits-joined setup events id bios legal w waits q)
    ∙ put_off (id == q) (was_issued events q) _ (waits_at setup events q) (λ t. subst (λ n. was_issued events n ≡ false) (eqb-true id q t) fresh)
    ∙ ap (λ o. cond (id == q) (Some (record { release = round_of events; due = w.due; bios = join_up w.bios bios })) o) (sym (unissued_is setup events q _ _ refl refl))

goes : (b was : Bool) (y : Option Entered) → cond (was || b) None (cond b None y) ≡ cond b None (cond was None y)
goes true true y = refl
goes true false y = refl
goes false true y = refl
goes false false y = refl

pub unissued-issued : (setup : Setup) (events : List Happened) (id tag : ℕ) → IsLegalTrace setup (events ++ Issue id tag ∷ []) → (q : ℕ) → unissued_at setup (events ++ Issue id tag ∷ []) q ≡ cond (id == q) None (unissued_at setup events q)
unissued-issued setup events id tag legal q =
    unissued_is setup (events ++ Issue id tag ∷ []) q _ _ (was_issued_more events (Issue id tag) q) (waits-issued setup events id tag legal q)
    ∙ goes (id == q) (was_issued events q) (waits_at setup events q)
    ∙ ap (λ o. cond (id == q) None o) (sym (unissued_is setup events q _ _ refl refl))

pub unissued-ticked : (setup : Setup) (events : List Happened) → IsLegalTrace setup (events ++ Tick ∷ []) → (q : ℕ) → unissued_at setup (events ++ Tick ∷ []) q ≡ unissued_at setup events q
unissued-ticked setup events legal q = unissued_kept setup events Tick refl refl refl refl q

pub unissued-finished : (setup : Setup) (events : List Happened) (tag : ℕ) → IsLegalTrace setup (events ++ Done tag ∷ []) → (q : ℕ) → unissued_at setup (events ++ Done tag ∷ []) q ≡ unissued_at setup events q
unissued-finished setup events tag legal q = unissued_kept setup events (Done tag) refl refl refl refl q
