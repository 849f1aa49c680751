-- What waits, what is a command and what may be joined after a Back.
use Rattle.std.proofs.Common.{◌≡◌, ◌+◌, ◌++◌, ◌==◌, ℕ, suc, List, [], ◌∷◌, length, map, refl, sym, ◌∙◌, ap, subst, arith, inl, inr, Some, None, cond, Bool, true, false, eqb-true, append-nil}
use Rattle.std.specs.Prelude.{Option, not, count_by}
use Rattle.std.proofs.lemmas.List.{map-append}
use Rattle.std.proofs.lemmas.Bool.{cases_Bool}
use Rattle.blk_trace.specs.Happened.{Happened, Back}
use Rattle.blk_trace.specs.Setups.{Setup}
use Rattle.blk_trace.specs.Events.{request_of, IsReleased, IsIssued, IsOpenBy}
use Rattle.blk_trace.specs.Legal.{IsLegalTrace}
use Rattle.blk_trace.specs.Meaning.{release_of, due_of, issued_ids, released_ids, command_of, commands_of}
use Rattle.blk_trace.specs.Waits.{Entered, entered_at, has_id, waits_at, was_issued, unissued_at, waiting_count}
use Rattle.blk_trace.proofs.More.{released_more}
use Rattle.blk_trace.proofs.Ids.{released_has, released_first, issued_was}
use Rattle.blk_trace.proofs.Entering.{IsSame, same_entered, has_released_same}
use Rattle.blk_trace.proofs.Waiting.{waits_is, waits_same}
use Rattle.blk_trace.proofs.Unissued.{unissued_is, was_kept}
use Rattle.blk_trace.proofs.Commands.{map_same, same_command}
use Rattle.blk_trace.proofs.Counting.{count_once, released_one, waiting_is}
use Rattle.blk_trace.proofs.Requeuing.{LosesIssue, IsOut, requeued_ids}

-- an open tag's request was released and issued
pub open_issued : (es : List Happened) (t id : ℕ) → IsOpenBy es t id → IsIssued es id
open_issued es t id o = (o.place, (t, o.issued))

pub waits_requeued : (setup : Setup) (es : List Happened) (t id : ℕ) → IsLegalTrace setup es → IsOpenBy es t id → (q : ℕ) → waits_at setup (es ++ Back t ∷ []) q ≡ cond (id == q) (Some (entered_at setup es id)) (waits_at setup es q)
unfolding released_ids
waits_requeued setup es t id legal o q =
    let fs : List Happened = es ++ Back t ∷ [] in
    let out : IsOut (issued_ids es) (issued_ids fs) id = requeued_ids setup es t id legal o in
    elim (cases_Bool (id == q)) [
      | inl b ↦
          let same : id ≡ q = eqb-true id q b in
          let here : IsReleased es id = released_first setup es id legal (open_issued es t id o) in
          let there : has_id (released_ids fs) id ≡ true = has_released_same es (Back t) id refl ∙ released_has es here.0 id here.1.0 here.1.1 in
          let kept : IsSame setup es fs id = same_entered setup es (Back t) id refl in
          let now : waits_at setup fs id ≡ Some (entered_at setup es id) = waits_is setup fs id true false (release_of es id) (due_of setup es id) (request_of es id) there out.gone kept.release kept.due kept.request in
          subst (λ n. waits_at setup fs n ≡ Some (entered_at setup es id)) same now ∙ sym (ap (λ c. cond c (Some (entered_at setup es id)) (waits_at setup es q)) b)
      | inr b ↦
          waits_same setup es fs q (has_released_same es (Back t) q refl) (out.other q b) (same_entered setup es (Back t) q refl)
          ∙ sym (ap (λ c. cond c (Some (entered_at setup es id)) (waits_at setup es q)) b)
    ]

stays_off : (b was : Bool) (x : Entered) (y : Option Entered) → (b ≡ true → was ≡ true) → cond was None (cond b (Some x) y) ≡ cond was None y
stays_off true was x y h = ap (λ w. cond w None (Some x)) (h refl) ∙ sym (ap (λ w. cond w None y) (h refl))
stays_off false was x y h = refl

pub unissued_requeued : (setup : Setup) (es : List Happened) (t id : ℕ) → IsLegalTrace setup es → IsOpenBy es t id → (q : ℕ) → unissued_at setup (es ++ Back t ∷ []) q ≡ unissued_at setup es q
unissued_requeued setup es t id legal o q =
    unissued_is setup (es ++ Back t ∷ []) q _ _ (was_kept es (Back t) q refl) (waits_requeued setup es t id legal o q)
    ∙ stays_off (id == q) (was_issued es q) (entered_at setup es id) (waits_at setup es q) (λ b. issued_was es q (subst (IsIssued es) (eqb-true id q b) (open_issued es t id o)))
    ∙ sym (unissued_is setup es q _ _ refl refl)

-- the commands
pub commands_were : (setup : Setup) (es fs : List Happened) (id : ℕ) (p : LosesIssue es fs id) → commands_of setup es ≡ map (command_of setup es) p.ids_before ++ command_of setup es id ∷ map (command_of setup es) p.ids_after
unfolding commands_of
commands_were setup es fs id p = ap (map (command_of setup es)) p.ids_were ∙ map-append (command_of setup es) p.ids_before (id ∷ p.ids_after)

pub commands_are : (setup : Setup) (es : List Happened) (t id : ℕ) (p : LosesIssue es (es ++ Back t ∷ []) id) → commands_of setup (es ++ Back t ∷ []) ≡ map (command_of setup es) p.ids_before ++ map (command_of setup es) p.ids_after
unfolding commands_of
commands_are setup es t id p =
    map_same (command_of setup (es ++ Back t ∷ [])) (command_of setup es) (issued_ids (es ++ Back t ∷ [])) (λ q h. same_command setup es (es ++ Back t ∷ []) q (same_entered setup es (Back t) q refl))
    ∙ ap (map (command_of setup es)) p.ids_are
    ∙ map-append (command_of setup es) p.ids_before p.ids_after

pub map_length : {X Y : Type 0} (f : X → Y) (xs : List X) → length (map f xs) ≡ length xs
map_length f [] = refl
map_length f (x ∷ xs) = ap suc (map_length f xs)

-- how many wait
pub count_requeued : (setup : Setup) (es : List Happened) (t id : ℕ) → IsLegalTrace setup es → IsOpenBy es t id → waiting_count (es ++ Back t ∷ []) ≡ waiting_count es + 1
unfolding released_ids
count_requeued setup es t id legal o =
    let fs : List Happened = es ++ Back t ∷ [] in
    let out : IsOut (issued_ids es) (issued_ids fs) id = requeued_ids setup es t id legal o in
    let here : IsReleased es id = released_first setup es id legal (open_issued es t id o) in
    let released : released_ids fs ≡ released_ids es = released_more es (Back t ∷ []) ∙ append-nil _ in
    let once : count_by (λ x. id == x) (released_ids es) ≡ 1 = released_one setup es id legal (released_has es here.0 id here.1.0 here.1.1) in
    let was : has_id (issued_ids es) id ≡ true = out.was in
    let gone : has_id (issued_ids fs) id ≡ false = out.gone in
    let more : count_by (λ x. not (has_id (issued_ids es) x)) (released_ids es) + 1 ≡ count_by (λ x. not (has_id (issued_ids fs) x)) (released_ids es) =
    count_once (λ x. not (has_id (issued_ids es) x)) (λ x. not (has_id (issued_ids fs) x)) id 1 (released_ids es) (λ x b. ap not (sym (out.other x b))) (rw (was, gone) refl) once in
    let now : waiting_count fs ≡ count_by (λ x. not (has_id (issued_ids fs) x)) (released_ids es) = waiting_is fs ∙ ap (count_by (λ x. not (has_id (issued_ids fs) x))) released in
    omega (arith, waiting_is es)
