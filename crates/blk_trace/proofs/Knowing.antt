-- What is kept under each id, with one more event, and what it says of the id.
use Rattle.std.proofs.Common.{◌≡◌, ◌+◌, ◌++◌, ◌==◌, ℕ, List, [], ◌∷◌, refl, sym, ◌∙◌, ap, subst, Some, None, cond, Bool, true, false, eqb-true, inl, inr}
use Rattle.std.specs.Prelude.{Option, option_map, ◌||◌, ◌⊎◌}
use Rattle.std.specs.List.{cons_option}
use Rattle.std.proofs.lemmas.Bool.{cases_Bool}
use Rattle.blk_bio.specs.Bios.{Bio}
use Rattle.blk_bio.specs.Requests.{dir_of}
use Rattle.blk_bio.specs.declared.rule.TraceRule.TheVariants.{ReleasedTwice, AlreadyIssued}
use Rattle.blk_trace.specs.declared.known.Entry.{Entry}
use Rattle.blk_trace.specs.declared.known.Stage.{Stage}
use Rattle.blk_trace.specs.declared.known.Stage.TheVariants.{Waits, Gone, Requeued}
use Rattle.blk_trace.specs.declared.known.Known.{Known}
use Rattle.blk_trace.specs.Happened.{Happened, Release, Join, Issue, Back}
use Rattle.blk_trace.specs.Kinds.{releases, joins, issues, requeues}
use Rattle.blk_trace.specs.Setups.{Setup, expire_of}
use Rattle.blk_trace.specs.Events.{round_of, join_up, IsReleased, IsIssued, AreRequeued, IsOpenBy}
use Rattle.blk_trace.specs.Legal.{IsLegalTrace}
use Rattle.blk_trace.specs.Meaning.{issued_ids, released_ids}
use Rattle.blk_trace.specs.Waits.{Entered, summary, entered_at, has_id, waits_at, was_issued}
use Rattle.blk_trace.specs.Inside.Kept.{request_at, stage_of, known_as, known_of, has_gone, is_gone}
use Rattle.blk_trace.proofs.More.{was_issued_more}
use Rattle.blk_trace.proofs.Entering.{has_issued_same}
use Rattle.blk_trace.proofs.Unissued.{was_kept}
use Rattle.blk_trace.proofs.Requeuing.{IsOut, requeued_ids}
use Rattle.blk_trace.proofs.Requeues.{open_issued}
use Rattle.blk_trace.proofs.Ids.{released_has, has_released, has_issued, not_issued, all_back, back_all, issued_was, was_is, never_was, has_issued_more, released_first}
use Rattle.blk_trace.proofs.Pushing.{shorter_legal, obeys}
use Rattle.blk_trace.proofs.Waiting.{waits_of, request_is, request_there, request_kept, request-released, request-joined}

known_by : (setup : Setup) (es : List Happened) (id : ℕ) (gone ever : Bool) (o : Option Entered) → has_id (issued_ids es) id ≡ gone → was_issued es id ≡ ever → request_at setup es id ≡ o → known_of setup es id ≡ option_map (known_as gone ever) o
unfolding known_of
known_by setup es id gone ever o a b d =
    ap (λ x. option_map (known_as x (was_issued es id)) (request_at setup es id)) a ∙ ap (λ x. option_map (known_as gone x) (request_at setup es id)) b ∙ ap (option_map (known_as gone ever)) d

known_is : (setup : Setup) (es : List Happened) (id : ℕ) → known_of setup es id ≡ option_map (known_as (has_id (issued_ids es) id) (was_issued es id)) (request_at setup es id)
known_is setup es id = known_by setup es id _ _ _ refl refl refl

-- an event by which nothing enters, and that issues nothing and hands nothing back
pub known_kept : (setup : Setup) (es : List Happened) (e : Happened) → releases e ≡ None → joins e ≡ None → issues e ≡ None → requeues e ≡ None → (q : ℕ) → known_of setup (es ++ e ∷ []) q ≡ known_of setup es q
unfolding issued_ids
known_kept setup es e r j i n q =
    known_by setup _ q _ _ _ (has_issued_same es e q n (ap (λ o. has_id (cons_option (option_map (λ p. p.0) o) []) q) i)) (was_kept es e q i) (request_kept setup es e r j q) ∙ sym (known_is setup es q)

-- what is kept of a request at a stage
abbrev pub known_at : Stage → Entered → Known
known_at stage w = record { stage = stage; entry = summary w }

-- an id's choice that is put off
put_off : (b gone ever : Bool) (x : Entered) (y : Option Entered) → (b ≡ true → gone ≡ false) → (b ≡ true → ever ≡ false) → option_map (known_as gone ever) (cond b (Some x) y) ≡ cond b (Some (known_at Waits x)) (option_map (known_as gone ever) y)
put_off true gone ever x y h n = ap (λ g. Some (known_as g ever x)) (h refl) ∙ ap (λ g. Some (known_as false g x)) (n refl)
put_off false gone ever x y h n = refl

pub known_released : (setup : Setup) (es : List Happened) (id : ℕ) (bios : List Bio) → IsLegalTrace setup (es ++ Release id bios ∷ []) → (q : ℕ)
    → known_of setup (es ++ Release id bios ∷ []) q ≡ cond (id == q) (Some (known_at Waits record { release = round_of es; due = round_of es + expire_of setup (dir_of bios); bios = bios })) (known_of setup es q)
known_released setup es id bios legal q =
    let old = shorter_legal setup es (Release id bios) legal in
    let never : IsIssued es id → ⊥ = λ p. obeys setup es (Release id bios) legal ReleasedTwice (released_first setup es id old p) in
    let entry : Entered = record { release = round_of es; due = round_of es + expire_of setup (dir_of bios); bios = bios } in
    known_by setup _ q _ _ _ (has_issued_same es (Release id bios) q refl refl) (was_kept es (Release id bios) q refl) (request-released setup es id bios legal q)
    ∙ put_off (id == q) (has_id (issued_ids es) q) (was_issued es q) entry (request_at setup es q) (λ t. subst (λ n. has_id (issued_ids es) n ≡ false) (eqb-true id q t) (not_issued es id never)) (λ t. subst (λ n. was_issued es n ≡ false) (eqb-true id q t) (never_was es id never))
    ∙ ap (λ x. cond (id == q) (Some (known_at Waits entry)) x) (sym (known_is setup es q))

pub known_joined : (setup : Setup) (es : List Happened) (id : ℕ) (bios : List Bio) → IsLegalTrace setup (es ++ Join id bios ∷ []) → (w : Entered) → request_at setup es id ≡ Some w → (q : ℕ)
    → known_of setup (es ++ Join id bios ∷ []) q ≡ cond (id == q) (Some (known_at Waits record { release = round_of es; due = w.due; bios = join_up w.bios bios })) (known_of setup es q)
known_joined setup es id bios legal w there q =
    let never : IsIssued es id → ⊥ = obeys setup es (Join id bios) legal AlreadyIssued in
    let entry : Entered = record { release = round_of es; due = w.due; bios = join_up w.bios bios } in
    known_by setup _ q _ _ _ (has_issued_same es (Join id bios) q refl refl) (was_kept es (Join id bios) q refl) (request-joined setup es id bios legal w there q)
    ∙ put_off (id == q) (has_id (issued_ids es) q) (was_issued es q) entry (request_at setup es q) (λ t. subst (λ n. has_id (issued_ids es) n ≡ false) (eqb-true id q t) (not_issued es id never)) (λ t. subst (λ n. was_issued es n ≡ false) (eqb-true id q t) (never_was es id never))
    ∙ ap (λ x. cond (id == q) (Some (known_at Waits entry)) x) (sym (known_is setup es q))

goes : (b gone ever : Bool) (y : Option Entered) (w : Entered) → (b ≡ true → y ≡ Some w) → option_map (known_as (gone || (b || false)) (ever || b)) y ≡ cond b (Some (known_at Gone w)) (option_map (known_as gone ever) y)
goes true true ever y w h = ap (option_map (known_as true (ever || true))) (h refl)
goes true false ever y w h = ap (option_map (known_as true (ever || true))) (h refl)
goes false true true y w h = refl
goes false true false y w h = refl
goes false false true y w h = refl
goes false false false y w h = refl

pub known_issued : (setup : Setup) (es : List Happened) (id tag : ℕ) → IsLegalTrace setup (es ++ Issue id tag ∷ []) → (w : Entered) → request_at setup es id ≡ Some w → (q : ℕ)
    → known_of setup (es ++ Issue id tag ∷ []) q ≡ cond (id == q) (Some (known_at Gone w)) (known_of setup es q)
known_issued setup es id tag legal w there q =
    known_by setup _ q _ _ _ (has_issued_more es (Issue id tag) q refl) (was_issued_more es (Issue id tag) q) (request_kept setup es (Issue id tag) refl refl q)
    ∙ goes (id == q) (has_id (issued_ids es) q) (was_issued es q) (request_at setup es q) w (λ t. subst (λ n. request_at setup es n ≡ Some w) (eqb-true id q t) there)
    ∙ ap (λ x. cond (id == q) (Some (known_at Gone w)) x) (sym (known_is setup es q))

comes_back : (b gone was ever : Bool) (y : Option Entered) (w : Entered) → (b ≡ true → gone ≡ false) → (b ≡ true → ever ≡ true) → (b ≡ false → gone ≡ was) → (b ≡ true → y ≡ Some w) → option_map (known_as gone ever) y ≡ cond b (Some (known_at Requeued w)) (option_map (known_as was ever) y)
comes_back true gone was ever y w h e n s = ap (λ g. option_map (known_as g ever) y) (h refl) ∙ ap (λ g. option_map (known_as false g) y) (e refl) ∙ ap (option_map (known_as false true)) (s refl)
comes_back false gone was ever y w h e n s = ap (λ g. option_map (known_as g ever) y) (n refl)

pub known_requeued_id : (setup : Setup) (es : List Happened) (t id : ℕ) → IsLegalTrace setup es → IsOpenBy es t id → (w : Entered) → request_at setup es id ≡ Some w → (q : ℕ)
    → known_of setup (es ++ Back t ∷ []) q ≡ cond (id == q) (Some (known_at Requeued w)) (known_of setup es q)
known_requeued_id setup es t id legal o w there q =
    let fs : List Happened = es ++ Back t ∷ [] in
    let out : IsOut (issued_ids es) (issued_ids fs) id = requeued_ids setup es t id legal o in
    known_by setup fs q _ _ _ refl (was_kept es (Back t) q refl) (request_kept setup es (Back t) refl refl q)
    ∙ comes_back (id == q) (has_id (issued_ids fs) q) (has_id (issued_ids es) q) (was_issued es q) (request_at setup es q) w
    (λ b. subst (λ n. has_id (issued_ids fs) n ≡ false) (eqb-true id q b) out.gone)
    (λ b. issued_was es q (subst (IsIssued es) (eqb-true id q b) (open_issued es t id o)))
    (λ b. out.other q b)
    (λ b. subst (λ n. request_at setup es n ≡ Some w) (eqb-true id q b) there)
    ∙ ap (λ x. cond (id == q) (Some (known_at Requeued w)) x) (sym (known_is setup es q))

-- ---- what is kept says of an id whether it was released

pub known_there : (setup : Setup) (es : List Happened) (id : ℕ) → IsReleased es id → known_of setup es id ≡ Some (known_as (has_id (issued_ids es) id) (was_issued es id) (entered_at setup es id))
known_there setup es id p = known_by setup es id _ _ _ refl refl (request_there setup es id p)

pub known_none : (setup : Setup) (es : List Happened) (id : ℕ) → known_of setup es id ≡ None → IsReleased es id → ⊥
known_none setup es id h p = let there = known_there setup es id p in absurd (cc)

known_not_by : (setup : Setup) (es : List Happened) (id : ℕ) → has_id (released_ids es) id ≡ false → known_of setup es id ≡ None
known_not_by setup es id h = known_by setup es id _ _ _ refl refl (request_is setup es id false _ _ _ h refl refl refl)

-- nothing is kept under an id that was not released
pub known_not : (setup : Setup) (es : List Happened) (id : ℕ) → (IsReleased es id → ⊥) → known_of setup es id ≡ None
known_not setup es id fresh = elim (cases_Bool (has_id (released_ids es) id)) [
  | inl there ↦ absurd (fresh (has_released es id there))
  | inr none ↦ known_not_by setup es id none
]

-- and what its request is, and how far it has come
pub record IsKnown (setup : Setup) (es : List Happened) (id : ℕ) (k : Known) : Type 0 where
  pub released : IsReleased es id
  pub is : k ≡ known_as (has_id (issued_ids es) id) (was_issued es id) (entered_at setup es id)

pub known_some : (setup : Setup) (es : List Happened) (id : ℕ) (k : Known) → known_of setup es id ≡ Some k → IsKnown setup es id k
known_some setup es id k h = elim (cases_Bool (has_id (released_ids es) id)) [
  | inl there ↦
      let released = has_released es id there in
      let both : Some k ≡ Some (known_as (has_id (issued_ids es) id) (was_issued es id) (entered_at setup es id)) = sym h ∙ known_there setup es id released in
      record { released = released; is = cc }
  | inr none ↦ let no : None ≡ Some k = sym (known_not_by setup es id none) ∙ h in absurd (cc)
]

-- ---- and whether it was issued, and requeued

at_waits : (gone ever : Bool) → stage_of gone ever ≡ Waits → ever ≡ false
at_waits true ever h = absurd (cc)
at_waits false true h = absurd (cc)
at_waits false false h = refl

not_at_waits : (gone ever : Bool) → (stage_of gone ever ≡ Waits → ⊥) → (gone ≡ true) ⊎ (ever ≡ true)
not_at_waits true ever h = inl refl
not_at_waits false true h = inr refl
not_at_waits false false h = absurd (h refl)

at_gone : (gone ever : Bool) → stage_of gone ever ≡ Gone → gone ≡ true
at_gone true ever h = refl
at_gone false true h = absurd (cc)
at_gone false false h = absurd (cc)

not_at_gone : (gone ever : Bool) → (stage_of gone ever ≡ Gone → ⊥) → gone ≡ false
not_at_gone true ever h = absurd (h refl)
not_at_gone false ever h = refl

module _ (setup : Setup) (es : List Happened) (id : ℕ) (k : Known) (known : IsKnown setup es id k) where
  stage_is : k.stage ≡ stage_of (has_id (issued_ids es) id) (was_issued es id)
  stage_is = ap (λ (x : Known). x.stage) known.is

  pub never_issued : k.stage ≡ Waits → IsIssued es id → ⊥
  never_issued h issued =
      let no : was_issued es id ≡ false = at_waits _ _ (sym stage_is ∙ h) in
      let yes : was_issued es id ≡ true = issued_was es id issued in
      absurd (cc)

  pub once_issued : (k.stage ≡ Waits → ⊥) → IsIssued es id
  once_issued h = elim (not_at_waits (has_id (issued_ids es) id) (was_issued es id) (λ w. h (stage_is ∙ w))) [
    | inl gone ↦ has_issued es id gone
    | inr ever ↦ was_is es id ever
  ]

  pub gone_out : k.stage ≡ Gone → AreRequeued es id → ⊥
  gone_out h back =
      let yes : has_id (issued_ids es) id ≡ true = at_gone _ (was_issued es id) (sym stage_is ∙ h) in
      let no : has_id (issued_ids es) id ≡ false = all_back es id back in
      absurd (cc)

  pub all_requeued : (k.stage ≡ Gone → ⊥) → AreRequeued es id
  all_requeued h = back_all es id (not_at_gone _ (was_issued es id) (λ g. h (stage_is ∙ g)))

-- what waits
abbrev pub waiting_entry : Option Known → Option Entry
waiting_entry None = None
waiting_entry (Some k) = cond (has_gone k.stage) None (Some k.entry)

waits_by : (gone ever : Bool) (o : Option Entered) → option_map summary (cond gone None o) ≡ waiting_entry (option_map (known_as gone ever) o)
waits_by true ever None = refl
waits_by true ever (Some w) = refl
waits_by false ever None = refl
waits_by false true (Some w) = refl
waits_by false false (Some w) = refl

pub known_waiting : (setup : Setup) (es : List Happened) (id : ℕ) (k : Option Known) → known_of setup es id ≡ k → option_map summary (waits_at setup es id) ≡ waiting_entry k
known_waiting setup es id k h =
    ap (option_map summary) (waits_of setup es id _ _ refl refl) ∙ waits_by (has_id (issued_ids es) id) (was_issued es id) (request_at setup es id)
    ∙ ap waiting_entry (sym (known_is setup es id) ∙ h)

-- whether it is gone
gone_by : (gone ever : Bool) → has_gone (stage_of gone ever) ≡ gone
gone_by true ever = refl
gone_by false true = refl
gone_by false false = refl

pub is_out : (setup : Setup) (es : List Happened) (id : ℕ) → IsLegalTrace setup es → is_gone (known_of setup es id) ≡ has_id (issued_ids es) id
is_out setup es id legal = elim (cases_Bool (has_id (released_ids es) id)) [
  | inl there ↦ ap is_gone (known_there setup es id (has_released es id there)) ∙ gone_by (has_id (issued_ids es) id) (was_issued es id)
  | inr none ↦
      ap is_gone (known_not_by setup es id none)
      ∙ sym (not_issued es id (λ p. let r = released_first setup es id legal p in let yes : has_id (released_ids es) id ≡ true = released_has es r.0 id r.1.0 r.1.1 in absurd (cc)))
]
