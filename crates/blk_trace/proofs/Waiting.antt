-- Which requests wait after one more event.
use Rattle.std.proofs.Common.{◌≡◌, ◌+◌, ◌++◌, ◌==◌, ℕ, List, [], ◌∷◌, refl, sym, ◌∙◌, ap, subst, arith, inl, inr, Some, None, cond, Bool, true, false, eq-eqb, eqb-true}
use Rattle.std.specs.Prelude.{◌||◌, ◌&&◌, not, Option, option_map}
use Rattle.std.specs.List.{cons_option}
use Rattle.std.proofs.lemmas.Bool.{cases_Bool, or_right, or_left, and_parts, not-true}
use Rattle.std.proofs.lemmas.Option.{cond_some}
use Rattle.blk_bio.specs.Bios.{Bio}
use Rattle.blk_bio.specs.Requests.{dir_of}
use Rattle.blk_bio.specs.declared.rule.TraceRule.TheVariants.{ReleasedTwice, Fit}
use Rattle.blk_trace.specs.Happened.{Happened, Release, Join, Issue}
use Rattle.blk_trace.specs.Kinds.{releases, joins, issues, requeues}
use Rattle.blk_trace.specs.Setups.{Setup, expire_of}
use Rattle.blk_trace.specs.Events.{round_of, join_up, request_of, IsReleased}
use Rattle.blk_trace.specs.Legal.{IsLegalTrace}
use Rattle.blk_trace.specs.Rules.{BreaksNoRule}
use Rattle.blk_trace.specs.Meaning.{release_of, due_of, issued_ids, released_ids, least}
use Rattle.blk_trace.specs.Inside.Kept.{request_at}
use Rattle.blk_trace.specs.Waits.{Entered, entered_at, has_id, waits_at}
use Rattle.blk_trace.proofs.More.{due_is}
use Rattle.blk_trace.proofs.Pushing.{shorter_legal, obeys}
use Rattle.blk_trace.proofs.Ids.{released_has, not_issued, has_released_more, has_issued_more, released_first}
use Rattle.blk_trace.proofs.Entering.{IsSame, IsEntered, HasNothing, same_entered, entered_released, entered_joined, nothing_before, has_released_same, has_issued_same, release_within, soon, next_soon, round_rises}

-- ---- what was released

-- the request under an id, by its parts
pub request_is : (setup : Setup) (fs : List Happened) (q : ℕ) (b : Bool) (r d : ℕ) (l : List Bio) → has_id (released_ids fs) q ≡ b → release_of fs q ≡ r → due_of setup fs q ≡ d → request_of fs q ≡ l
    → request_at setup fs q ≡ cond b (Some (record { release = r; due = d; bios = l })) None
unfolding request_at
request_is setup fs q b r d l h j k m = rw (h, j, k, m) refl

pub request_same : (setup : Setup) (es fs : List Happened) (q : ℕ) → has_id (released_ids fs) q ≡ has_id (released_ids es) q → IsSame setup es fs q → request_at setup fs q ≡ request_at setup es q
unfolding request_at
request_same setup es fs q h same = request_is setup fs q _ _ _ _ h same.release same.due same.request

-- a request that was released
pub record IsThere (setup : Setup) (es : List Happened) (id : ℕ) (w : Entered) : Type 0 where
  pub released : has_id (released_ids es) id ≡ true
  pub due_is : w.due ≡ due_of setup es id
  pub bios_is : w.bios ≡ request_of es id

pub there_from : (setup : Setup) (es : List Happened) (id : ℕ) (w : Entered) → request_at setup es id ≡ Some w → IsThere setup es id w
unfolding request_at
there_from setup es id w h =
    let p = cond_some (has_id (released_ids es) id) (entered_at setup es id) w h in
    record { released = p.0; due_is = ap (λ (x : Entered). x.due) (sym p.1); bios_is = ap (λ (x : Entered). x.bios) (sym p.1) }

pub request_there : (setup : Setup) (es : List Happened) (id : ℕ) → IsReleased es id → request_at setup es id ≡ Some (entered_at setup es id)
request_there setup es id p = request_is setup es id true _ _ _ (released_has es p.0 id p.1.0 p.1.1) refl refl refl

-- an event by which nothing enters leaves what was released
pub request_kept : (setup : Setup) (events : List Happened) (e : Happened) → releases e ≡ None → joins e ≡ None → (q : ℕ) → request_at setup (events ++ e ∷ []) q ≡ request_at setup events q
unfolding released_ids
request_kept setup events e r j q =
    request_same setup events _ q (has_released_same events e q (ap (λ o. has_id (cons_option (option_map (λ p. p.0) o) []) q) r)) (same_entered setup events e q (rw (r, j) refl))

released_now : (setup : Setup) (events : List Happened) (id : ℕ) (bios : List Bio) → IsLegalTrace setup events → BreaksNoRule setup events (Release id bios) → (q : ℕ) → (id == q) ≡ true → request_at setup (events ++ Release id bios ∷ []) q ≡ Some (record { release = round_of events; due = round_of events + expire_of setup (dir_of bios); bios = bios })
unfolding released_ids
released_now setup events id bios old all q t =
    let none : HasNothing setup events q = nothing_before setup events id q bios old all t in
    let new : IsEntered setup events (events ++ Release id bios ∷ []) q bios = entered_released setup events id q bios t in
    request_is setup (events ++ Release id bios ∷ []) q true (round_of events) (round_of events + expire_of setup (dir_of bios)) bios
    (has_released_more events (Release id bios) q ∙ or_right (has_id (released_ids events) q) ((id == q) || false) (or_left (id == q) false t))
    (new.release ∙ omega (arith, none.release))
    (due_is setup _ q ∙ ap least (new.dues_are ∙ ap (λ l. l ++ (round_of events + expire_of setup (dir_of bios)) ∷ []) none.dues_are))
    (new.request ∙ ap (λ l. join_up l bios) none.request)

pub request-released : (setup : Setup) (events : List Happened) (id : ℕ) (bios : List Bio) → IsLegalTrace setup (events ++ Release id bios ∷ []) → (q : ℕ) → request_at setup (events ++ Release id bios ∷ []) q ≡ cond (id == q) (Some (record { release = round_of events; due = round_of events + expire_of setup (dir_of bios); bios = bios })) (request_at setup events q)
unfolding released_ids
request-released setup events id bios legal q =
    elim (cases_Bool (id == q)) [
      | inl t ↦ released_now setup events id bios (shorter_legal setup events _ legal) (obeys setup events _ legal) q t ∙ sym (rw t refl)
      | inr t ↦ request_same setup events (events ++ Release id bios ∷ []) q (has_released_same events (Release id bios) q (rw t refl)) (same_entered setup events (Release id bios) q t) ∙ sym (rw t refl)
    ]

joined_now : (setup : Setup) (events : List Happened) (id : ℕ) (bios : List Bio) → IsLegalTrace setup events → BreaksNoRule setup events (Join id bios) → (w : Entered) → request_at setup events id ≡ Some w → (q : ℕ) → id ≡ q → request_at setup (events ++ Join id bios ∷ []) q ≡ Some (record { release = round_of events; due = w.due; bios = join_up w.bios bios })
unfolding released_ids
joined_now setup events id bios old all w there q same =
    let t : (id == q) ≡ true = eq-eqb id q same in
    let was : IsThere setup events q w = subst (λ x. IsThere setup events x w) same (there_from setup events id w there) in
    let new : IsEntered setup events (events ++ Join id bios ∷ []) q bios = entered_joined setup events id q bios t in
    let dir : dir_of bios ≡ dir_of (request_of events q) = subst (λ x. dir_of bios ≡ dir_of (request_of events x)) same (all Fit).1.same_direction in
    let kept : due_of setup (events ++ Join id bios ∷ []) q ≡ due_of setup events q = (next_soon setup events _ q bios (soon setup events q old was.released) new dir (round_rises events (Join id bios))).1 in
    request_is setup (events ++ Join id bios ∷ []) q true (round_of events) w.due (join_up w.bios bios)
    (has_released_same events (Join id bios) q refl ∙ was.released)
    (new.release ∙ omega (arith, release_within events q))
    (kept ∙ sym was.due_is)
    (new.request ∙ ap (λ l. join_up l bios) (sym was.bios_is))

pub request-joined : (setup : Setup) (events : List Happened) (id : ℕ) (bios : List Bio) → IsLegalTrace setup (events ++ Join id bios ∷ []) → (w : Entered) → request_at setup events id ≡ Some w → (q : ℕ) → request_at setup (events ++ Join id bios ∷ []) q ≡ cond (id == q) (Some (record { release = round_of events; due = w.due; bios = join_up w.bios bios })) (request_at setup events q)
unfolding released_ids
request-joined setup events id bios legal w there q =
    elim (cases_Bool (id == q)) [
      | inl t ↦ joined_now setup events id bios (shorter_legal setup events _ legal) (obeys setup events _ legal) w there q (eqb-true id q t) ∙ sym (rw t refl)
      | inr t ↦ request_same setup events (events ++ Join id bios ∷ []) q (has_released_same events (Join id bios) q refl) (same_entered setup events (Join id bios) q t) ∙ sym (rw t refl)
    ]

-- ---- what waits: of what was released, what isn't gone

waits_by_both : (r g : Bool) (x : Entered) → cond (r && not g) (Some x) None ≡ cond g None (cond r (Some x) None)
waits_by_both true true x = refl
waits_by_both true false x = refl
waits_by_both false true x = refl
waits_by_both false false x = refl

pub waits_of : (setup : Setup) (es : List Happened) (q : ℕ) (g : Bool) (o : Option Entered) → has_id (issued_ids es) q ≡ g → request_at setup es q ≡ o → waits_at setup es q ≡ cond g None o
unfolding waits_at request_at
waits_of setup es q g o h r =
    waits_by_both (has_id (released_ids es) q) (has_id (issued_ids es) q) (entered_at setup es q) ∙ ap (λ b. cond b None (request_at setup es q)) h ∙ ap (λ x. cond g None x) r

-- what waits, by its parts
pub waits_is : (setup : Setup) (fs : List Happened) (q : ℕ) (b c : Bool) (r d : ℕ) (l : List Bio) → has_id (released_ids fs) q ≡ b → has_id (issued_ids fs) q ≡ c → release_of fs q ≡ r → due_of setup fs q ≡ d → request_of fs q ≡ l
    → waits_at setup fs q ≡ cond (b && not c) (Some (record { release = r; due = d; bios = l })) None
unfolding waits_at
waits_is setup fs q b c r d l h i j k m = rw (h, i, j, k, m) refl

pub waits_same : (setup : Setup) (es fs : List Happened) (q : ℕ) → has_id (released_ids fs) q ≡ has_id (released_ids es) q → has_id (issued_ids fs) q ≡ has_id (issued_ids es) q → IsSame setup es fs q → waits_at setup fs q ≡ waits_at setup es q
unfolding waits_at
waits_same setup es fs q h i same = waits_is setup fs q _ _ _ _ _ h i same.release same.due same.request

-- a request that waits
pub record IsWaiting (setup : Setup) (es : List Happened) (id : ℕ) (w : Entered) : Type 0 where
  pub released : has_id (released_ids es) id ≡ true
  pub unissued : has_id (issued_ids es) id ≡ false
  pub release_is : w.release ≡ release_of es id
  pub due_is : w.due ≡ due_of setup es id
  pub bios_is : w.bios ≡ request_of es id

pub waiting_from : (setup : Setup) (es : List Happened) (id : ℕ) (w : Entered) → waits_at setup es id ≡ Some w → IsWaiting setup es id w
unfolding waits_at
waiting_from setup es id w h =
    let p = cond_some (has_id (released_ids es) id && not (has_id (issued_ids es) id)) (record { release = release_of es id; due = due_of setup es id; bios = request_of es id }) w h in
    let b = and_parts (has_id (released_ids es) id) (not (has_id (issued_ids es) id)) p.0 in
    record {
      released = b.0;
      unissued = not-true _ b.1;
      release_is = ap (λ (x : Entered). x.release) (sym p.1);
      due_is = ap (λ (x : Entered). x.due) (sym p.1);
      bios_is = ap (λ (x : Entered). x.bios) (sym p.1);
    }

pub waits_from : (setup : Setup) (es : List Happened) (id : ℕ) → has_id (released_ids es) id ≡ true → has_id (issued_ids es) id ≡ false → waits_at setup es id ≡ Some (record { release = release_of es id; due = due_of setup es id; bios = request_of es id })
waits_from setup es id h i = waits_is setup es id true false _ _ _ h i refl refl refl

-- an id that can be joined or issued waits
pub waits_for : (setup : Setup) (es : List Happened) (id : ℕ) → IsReleased es id → has_id (issued_ids es) id ≡ false → waits_at setup es id ≡ Some (record { release = release_of es id; due = due_of setup es id; bios = request_of es id })
waits_for setup es id p n = waits_from setup es id (released_has es p.0 id p.1.0 p.1.1) n

-- an event by which nothing enters, and that issues nothing and hands nothing back, leaves what waits
pub waits_kept : (setup : Setup) (events : List Happened) (e : Happened) → releases e ≡ None → joins e ≡ None → issues e ≡ None → requeues e ≡ None → (q : ℕ) → waits_at setup (events ++ e ∷ []) q ≡ waits_at setup events q
unfolding issued_ids
waits_kept setup events e r j i n q =
    waits_of setup _ q _ _ (has_issued_same events e q n (ap (λ o. has_id (cons_option (option_map (λ p. p.0) o) []) q) i)) (request_kept setup events e r j q)
    ∙ sym (waits_of setup events q _ _ refl refl)

pub put_off : (b gone : Bool) (x : Entered) (y : Option Entered) → (b ≡ true → gone ≡ false) → cond gone None (cond b (Some x) y) ≡ cond b (Some x) (cond gone None y)
put_off true gone x y h = ap (λ g. cond g None (Some x)) (h refl)
put_off false gone x y h = refl

pub waits-released : (setup : Setup) (events : List Happened) (id : ℕ) (bios : List Bio) → IsLegalTrace setup (events ++ Release id bios ∷ []) → (q : ℕ) → waits_at setup (events ++ Release id bios ∷ []) q ≡ cond (id == q) (Some (record { release = round_of events; due = round_of events + expire_of setup (dir_of bios); bios = bios })) (waits_at setup events q)
waits-released setup events id bios legal q =
    let old = shorter_legal setup events _ legal in
    let unissued : has_id (issued_ids events) id ≡ false = not_issued events id (λ p. obeys setup events (Release id bios) legal ReleasedTwice (released_first setup events id old p)) in
    let entry : Entered = record { release = round_of events; due = round_of events + expire_of setup (dir_of bios); bios = bios } in
    waits_of setup _ q _ _ (has_issued_same events (Release id bios) q refl refl) (request-released setup events id bios legal q)
    ∙ put_off (id == q) (has_id (issued_ids events) q) entry (request_at setup events q) (λ t. subst (λ n. has_id (issued_ids events) n ≡ false) (eqb-true id q t) unissued)
    ∙ ap (λ o. cond (id == q) (Some entry) o) (sym (waits_of setup events q _ _ refl refl))

-- what waits is there, and isn't gone
there_by : (g : Bool) (o : Option Entered) (w : Entered) → cond g None o ≡ Some w → (g ≡ false) × (o ≡ Some w)
there_by true o w h = absurd (cc)
there_by false o w h = (refl, h)

pub waits_there : (setup : Setup) (es : List Happened) (id : ℕ) (w : Entered) → waits_at setup es id ≡ Some w → (has_id (issued_ids es) id ≡ false) × (request_at setup es id ≡ Some w)
waits_there setup es id w h = there_by (has_id (issued_ids es) id) (request_at setup es id) w (sym (waits_of setup es id _ _ refl refl) ∙ h)

pub waits-joined : (setup : Setup) (events : List Happened) (id : ℕ) (bios : List Bio) → IsLegalTrace setup (events ++ Join id bios ∷ []) → (w : Entered) → waits_at setup events id ≡ Some w → (q : ℕ) → waits_at setup (events ++ Join id bios ∷ []) q ≡ cond (id == q) (Some (record { release = round_of events; due = w.due; bios = join_up w.bios bios })) (waits_at setup events q)
waits-joined setup events id bios legal w waits q =
    let p = waits_there setup events id w waits in
    let entry : Entered = record { release = round_of events; due = w.due; bios = join_up w.bios bios } in
    waits_of setup _ q _ _ (has_issued_same events (Join id bios) q refl refl) (request-joined setup events id bios legal w p.1 q)
    ∙ put_off (id == q) (has_id (issued_ids events) q) entry (request_at setup events q) (λ t. subst (λ n. has_id (issued_ids events) n ≡ false) (eqb-true id q t) p.0)
    ∙ ap (λ o. cond (id == q) (Some entry) o) (sym (waits_of setup events q _ _ refl refl))

goes : (b gone : Bool) (y : Option Entered) → cond (gone || (b || false)) None y ≡ cond b None (cond gone None y)
goes true true y = refl
goes true false y = refl
goes false true y = refl
goes false false y = refl

pub waits-issued : (setup : Setup) (events : List Happened) (id tag : ℕ) → IsLegalTrace setup (events ++ Issue id tag ∷ []) → (q : ℕ) → waits_at setup (events ++ Issue id tag ∷ []) q ≡ cond (id == q) None (waits_at setup events q)
waits-issued setup events id tag legal q =
    waits_of setup _ q _ _ (has_issued_more events (Issue id tag) q refl) (request_kept setup events (Issue id tag) refl refl q)
    ∙ goes (id == q) (has_id (issued_ids events) q) (request_at setup events q)
    ∙ ap (λ o. cond (id == q) None o) (sym (waits_of setup events q _ _ refl refl))
