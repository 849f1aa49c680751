-- Which requeued requests wait, after one more event.
use Rattle.std.proofs.Common.{◌≡◌, ◌∙◌, sym, ap, subst, refl, ℕ, Bool, true, false, cond, List, [], ◌∷◌, ◌++◌, Option, Some, None, ◌==◌, eqb-true}
use Rattle.std.specs.Prelude.{◌||◌, ◌&&◌, not}
use Rattle.blk_bio.specs.Bios.{Bio}
use Rattle.blk_bio.specs.declared.rule.TraceRule.TheVariants.{ReleasedTwice, AlreadyIssued}
use Rattle.blk_trace.specs.Happened.{Happened}
use Rattle.blk_trace.specs.declared.event.Event.TheVariants.{Tick, Release, Join, Issue, Done, Back, Depth}
use Rattle.blk_trace.specs.Kinds.{releases, joins, issues, requeues}
use Rattle.blk_trace.specs.Setups.{Setup}
use Rattle.blk_trace.specs.Events.{IsIssued, request_of}
use Rattle.blk_trace.specs.Legal.{IsLegalTrace}
use Rattle.blk_trace.specs.Meaning.{release_of, due_of, released_ids}
use Rattle.blk_trace.specs.Waits.{Entered, entered_at, has_id, waits_at, was_issued, unissued_at}
use Rattle.blk_trace.specs.Events.{IsOpenBy}
use Rattle.blk_trace.proofs.More.{was_issued_more}
use Rattle.blk_trace.proofs.Pushing.{shorter_legal, obeys}
use Rattle.blk_trace.proofs.Ids.{never_was, released_first, issued_was}
use Rattle.blk_trace.proofs.Waiting.{waits_is, waits_kept, waits-released, waits-joined, waits-issued}
use Rattle.blk_trace.proofs.Unissued.{unissued_from, unissued_is, was_kept}
use Rattle.blk_trace.proofs.Requeuing.{requeued_ids}
use Rattle.blk_trace.proofs.Requeues.{open_issued, waits_requeued}
use Rattle.blk_core.specs.State.{requeued_at}

pub requeued_is : (setup : Setup) (es : List Happened) (id : ℕ) (b : Bool) (o : Option Entered) → was_issued es id ≡ b → waits_at setup es id ≡ o → requeued_at setup es id ≡ cond b o None
unfolding requeued_at
requeued_is setup es id b o h w = ap (λ x. cond x (waits_at setup es id) None) h ∙ ap (λ x. cond b x None) w

by_test : (b : Bool) (o : Option Entered) (w : Entered) → cond b o None ≡ Some w → (b ≡ true) × (o ≡ Some w)
by_test true o w h = (refl, h)
by_test false o w h = absurd (cc)

-- a requeued request was issued, and waits
pub requeued_from : (setup : Setup) (es : List Happened) (id : ℕ) (w : Entered) → requeued_at setup es id ≡ Some w → (was_issued es id ≡ true) × (waits_at setup es id ≡ Some w)
requeued_from setup es id w h = by_test (was_issued es id) (waits_at setup es id) w (sym (requeued_is setup es id _ _ refl refl) ∙ h)

-- one that was never issued was not, nor one that is in flight
pub unissued_not_requeued : (setup : Setup) (es : List Happened) (id : ℕ) (w : Entered) → unissued_at setup es id ≡ Some w → requeued_at setup es id ≡ None
unissued_not_requeued setup es id w h = requeued_is setup es id false _ (unissued_from setup es id w h).0 refl

pub requeued_not_unissued : (setup : Setup) (es : List Happened) (id : ℕ) (w : Entered) → requeued_at setup es id ≡ Some w → unissued_at setup es id ≡ None
requeued_not_unissued setup es id w h = unissued_is setup es id true _ (requeued_from setup es id w h).0 refl

none_waits : (b : Bool) (x : Entered) → cond (b && not true) (Some x) None ≡ None
none_waits true x = refl
none_waits false x = refl

no_choice : (b : Bool) (o : Option Entered) → o ≡ None → cond b o None ≡ None
no_choice true o h = h
no_choice false o h = refl

pub flown_not_requeued : (setup : Setup) (es : List Happened) (tag id : ℕ) → IsLegalTrace setup es → IsOpenBy es tag id → requeued_at setup es id ≡ None
flown_not_requeued setup es tag id legal o =
    let none : waits_at setup es id ≡ None = waits_is setup es id (has_id (released_ids es) id) true (release_of es id) (due_of setup es id) (request_of es id) refl (requeued_ids setup es tag id legal o).was refl refl refl ∙ none_waits (has_id (released_ids es) id) (entered_at setup es id) in
    requeued_is setup es id _ _ refl refl ∙ no_choice (was_issued es id) (waits_at setup es id) none

-- an event by which nothing enters, and that issues and requeues nothing
pub requeued_kept : (setup : Setup) (es : List Happened) (e : Happened) → releases e ≡ None → joins e ≡ None → issues e ≡ None → requeues e ≡ None → (q : ℕ) → requeued_at setup (es ++ e ∷ []) q ≡ requeued_at setup es q
requeued_kept setup es e r j i n q =
    requeued_is setup (es ++ e ∷ []) q _ _ (was_kept es e q i) (waits_kept setup es e r j i n q) ∙ sym (requeued_is setup es q _ _ refl refl)

pub requeued-ticked : (setup : Setup) (es : List Happened) (q : ℕ) → requeued_at setup (es ++ Tick ∷ []) q ≡ requeued_at setup es q
requeued-ticked setup es q = requeued_kept setup es Tick refl refl refl refl q

pub requeued-finished : (setup : Setup) (es : List Happened) (tag q : ℕ) → requeued_at setup (es ++ Done tag ∷ []) q ≡ requeued_at setup es q
requeued-finished setup es tag q = requeued_kept setup es (Done tag) refl refl refl refl q

pub requeued-set : (setup : Setup) (es : List Happened) (depth q : ℕ) → requeued_at setup (es ++ Depth depth ∷ []) q ≡ requeued_at setup es q
requeued-set setup es depth q = requeued_kept setup es (Depth depth) refl refl refl refl q

drops : (b was : Bool) (x : Entered) (y : Option Entered) → (b ≡ true → was ≡ false) → cond was (cond b (Some x) y) None ≡ cond was y None
drops true was x y h = ap (λ w. cond w (Some x) None) (h refl) ∙ sym (ap (λ w. cond w y None) (h refl))
drops false was x y h = refl

pub requeued-released : (setup : Setup) (es : List Happened) (id : ℕ) (bios : List Bio) → IsLegalTrace setup (es ++ Release id bios ∷ []) → (q : ℕ) → requeued_at setup (es ++ Release id bios ∷ []) q ≡ requeued_at setup es q
requeued-released setup es id bios legal q =
    let e : Happened = Release id bios in
    let old = shorter_legal setup es e legal in
    let fresh : was_issued es id ≡ false = never_was es id (λ p. obeys setup es e legal ReleasedTwice (released_first setup es id old p)) in
    requeued_is setup (es ++ e ∷ []) q _ _ (was_kept es e q refl) (waits-released setup es id bios legal q)
    ∙ drops (id == q) (was_issued es q) _ (waits_at setup es q) (λ t. subst (λ n. was_issued es n ≡ false) (eqb-true id q t) fresh)
    ∙ sym (requeued_is setup es q _ _ refl refl)

pub requeued-joined : (setup : Setup) (es : List Happened) (id : ℕ) (bios : List Bio) → IsLegalTrace setup (es ++ Join id bios ∷ []) → (w : Entered) → waits_at setup es id ≡ Some w → (q : ℕ) → requeued_at setup (es ++ Join id bios ∷ []) q ≡ requeued_at setup es q
requeued-joined setup es id bios legal w waits q =
    let e : Happened = Join id bios in
    let fresh : was_issued es id ≡ false = never_was es id (obeys setup es e legal AlreadyIssued) in
    requeued_is setup (es ++ e ∷ []) q _ _ (was_kept es e q refl) (waits-joined setup es id bios legal w waits q)
    ∙ drops (id == q) (was_issued es q) _ (waits_at setup es q) (λ t. subst (λ n. was_issued es n ≡ false) (eqb-true id q t) fresh)
    ∙ sym (requeued_is setup es q _ _ refl refl)

goes : (b was : Bool) (y : Option Entered) → cond (was || b) (cond b None y) None ≡ cond b None (cond was y None)
goes true true y = refl
goes true false y = refl
goes false true y = refl
goes false false y = refl

pub requeued-issued : (setup : Setup) (es : List Happened) (id tag : ℕ) → IsLegalTrace setup (es ++ Issue id tag ∷ []) → (q : ℕ) → requeued_at setup (es ++ Issue id tag ∷ []) q ≡ cond (id == q) None (requeued_at setup es q)
requeued-issued setup es id tag legal q =
    requeued_is setup (es ++ Issue id tag ∷ []) q _ _ (was_issued_more es (Issue id tag) q) (waits-issued setup es id tag legal q)
    ∙ goes (id == q) (was_issued es q) (waits_at setup es q)
    ∙ ap (λ o. cond (id == q) None o) (sym (requeued_is setup es q _ _ refl refl))

comes : (b was : Bool) (x : Entered) (y : Option Entered) → (b ≡ true → was ≡ true) → cond was (cond b (Some x) y) None ≡ cond b (Some x) (cond was y None)
comes true was x y h = ap (λ w. cond w (Some x) None) (h refl)
comes false was x y h = refl

pub requeued-requeued : (setup : Setup) (es : List Happened) (tag id : ℕ) → IsLegalTrace setup es → IsOpenBy es tag id → (q : ℕ) → requeued_at setup (es ++ Back tag ∷ []) q ≡ cond (id == q) (Some (entered_at setup es id)) (requeued_at setup es q)
requeued-requeued setup es tag id legal o q =
    requeued_is setup (es ++ Back tag ∷ []) q _ _ (was_kept es (Back tag) q refl) (waits_requeued setup es tag id legal o q)
    ∙ comes (id == q) (was_issued es q) (entered_at setup es id) (waits_at setup es q) (λ b. issued_was es q (subst (IsIssued es) (eqb-true id q b) (open_issued es tag id o)))
    ∙ ap (λ y. cond (id == q) (Some (entered_at setup es id)) y) (sym (requeued_is setup es q _ _ refl refl))
