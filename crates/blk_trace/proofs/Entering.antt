-- What the events leave of an id's request, its release and its due round.
use Rattle.std.proofs.Common.{◌≡◌, ◌≤◌, ◌+◌, ◌++◌, ◌==◌, ℕ, List, [], ◌∷◌, refl, sym, ◌∙◌, ap, subst, arith, inl, inr, Some, None, append-nil, Bool, true, false, ne_eqb, eqb-true}
use Rattle.std.specs.Prelude.{◌⊎◌, Option, option_map, cond, ◌||◌, fold, max, min}
use Rattle.std.specs.Option.{option_map_or, option_and_then}
use Rattle.std.specs.List.{cons_option}
use Rattle.std.proofs.lemmas.List.Sums.{fold_push}
use Rattle.std.proofs.lemmas.Bool.{cases_Bool, or_parts, cond_both, both_ways}
use Rattle.blk_bio.specs.Bios.{Bio}
use Rattle.blk_bio.specs.Requests.{dir_of, first_of, last_of}
use Rattle.blk_bio.specs.declared.rule.TraceRule.TheVariants.{ReleasedTwice, Unknown, AlreadyIssued, Fit}
use Rattle.blk_trace.specs.Happened.{Happened, Release, Join}
use Rattle.blk_trace.specs.Kinds.{enters, requeues, enters_under}
use Rattle.blk_trace.specs.Setups.{Setup, expire_of}
use Rattle.blk_trace.specs.Events.{round_of, join_up, request_of, IsReleased, IsIssued}
use Rattle.blk_trace.specs.Legal.{IsLegalTrace}
use Rattle.blk_trace.specs.Rules.{BreaksNoRule}
use Rattle.blk_trace.specs.Meaning.{timed, release_of, due_of, issued_ids, released_ids, least}
use Rattle.blk_trace.specs.Waits.{has_id}
use Rattle.blk_trace.proofs.More.{request_more, release_more, dues, dues_more, due_is, round_more}
use Rattle.blk_trace.proofs.Served.{new_ids}
use Rattle.blk_trace.proofs.Ids.{by_events, by_legal, released_has, not_released, has_released_more, released_first, has_issued_more}

-- whether a request enters under the id by the event
abbrev pub enters_as : ℕ → Happened → Bool
enters_as id e = option_map_or (λ p. p.0 == id) (enters e) false

none_under : (id : ℕ) (o : Option (ℕ × List Bio)) → option_map_or (λ p. p.0 == id) o false ≡ false → option_and_then (λ p. cond (p.0 == id) (Some p.1) None) o ≡ None
none_under id None h = refl
none_under id (Some p) h = ap (λ b. cond b (Some p.1) None) h

-- what an event that enters nothing under the id leaves
pub record IsSame (setup : Setup) (es fs : List Happened) (id : ℕ) : Type 0 where
  pub request : request_of fs id ≡ request_of es id
  pub release : release_of fs id ≡ release_of es id
  pub dues_are : dues setup fs id ≡ dues setup es id
  pub due : due_of setup fs id ≡ due_of setup es id

same_from : (setup : Setup) (es : List Happened) (e : Happened) (id : ℕ) → enters_under id e ≡ None → IsSame setup es (es ++ e ∷ []) id
same_from setup es e id none =
    let kept : dues setup (es ++ e ∷ []) id ≡ dues setup es id = dues_more setup es e id ∙ ap (λ o. dues setup es id ++ cons_option (option_map (λ bios. round_of es + expire_of setup (dir_of bios)) o) []) none ∙ append-nil _ in
    record {
      request = request_more es e id ∙ ap (λ o. fold join_up (request_of es id) (cons_option o [])) none;
      release = release_more es e id ∙ ap (λ o. fold max (release_of es id) (cons_option (option_map (λ _. round_of es) o) [])) none;
      dues_are = kept;
      due = due_is setup (es ++ e ∷ []) id ∙ ap least kept ∙ sym (due_is setup es id);
    }

pub same_entered : (setup : Setup) (es : List Happened) (e : Happened) (id : ℕ) → enters_as id e ≡ false → IsSame setup es (es ++ e ∷ []) id
same_entered setup es e id h = same_from setup es e id (none_under id (enters e) h)

-- an id that was not released has no request, release or due round
pub record HasNothing (setup : Setup) (es : List Happened) (id : ℕ) : Type 0 where
  pub request : request_of es id ≡ []
  pub release : release_of es id ≡ 0
  pub dues_are : dues setup es id ≡ []

-- a request enters under an id that was released, or that is now
enters_not : (setup : Setup) (es : List Happened) (e : Happened) (id : ℕ) → BreaksNoRule setup es e → has_id (released_ids es) id ≡ false → has_id (released_ids (e ∷ [])) id ≡ false → enters_as id e ≡ false
unfolding released_ids
enters_not setup es (Release i q) id all a b = (or_parts (i == id) false b).0
enters_not setup es (Join i q) id all a b =
    ne_eqb i id (λ same. let p : IsReleased es id = subst (IsReleased es) same (all Unknown) in both_ways _ a (released_has es p.0 id p.1.0 p.1.1))
enters_not setup es e id all a b = refl

pub nothing : (setup : Setup) (es : List Happened) (id : ℕ) → IsLegalTrace setup es → has_id (released_ids es) id ≡ false → HasNothing setup es id
unfolding request_of release_of dues released_ids timed
nothing setup es id legal h =
    by_legal setup (λ l. has_id (released_ids l) id ≡ false → HasNothing setup l id) (λ _. record { request = refl; release = refl; dues_are = refl })
    (λ es e new old all ih t.
    let parts = or_parts _ _ (sym (has_released_more es e id) ∙ t) in
    let same : IsSame setup es (es ++ e ∷ []) id = same_entered setup es e id (enters_not setup es e id all parts.0 parts.1) in
    let before : HasNothing setup es id = ih parts.0 in
    record { request = same.request ∙ before.request; release = same.release ∙ before.release; dues_are = same.dues_are ∙ before.dues_are })
    es legal h

-- what enters under an id
pub dir_join : (bs n : List Bio) → dir_of n ≡ dir_of bs → dir_of (join_up bs n) ≡ dir_of bs
dir_join [] n h = h
dir_join (b ∷ bs) [] h = cond_both (first_of [] == last_of (b ∷ bs)) ((b ∷ bs) ++ []) ([] ++ (b ∷ bs)) (λ l. dir_of l ≡ b.dir) (λ _. refl) (λ _. refl)
dir_join (b ∷ bs) (c ∷ cs) h = cond_both (first_of (c ∷ cs) == last_of (b ∷ bs)) ((b ∷ bs) ++ (c ∷ cs)) ((c ∷ cs) ++ (b ∷ bs)) (λ l. dir_of l ≡ b.dir) (λ _. refl) (λ _. h)

pub round_rises : (es : List Happened) (e : Happened) → round_of es ≤ round_of (es ++ e ∷ [])
round_rises es e = omega (arith, round_more es e)

max_within : (a b c : ℕ) (o : Option ℕ) → a ≤ c → (o ≡ None) ⊎ (o ≡ Some b) → b ≤ c → fold max a (cons_option o []) ≤ c
max_within a b c o h (inl n) l = rw n h
max_within a b c o h (inr n) l = rw n (omega arith)

now_or_never : (r : ℕ) (o : Option (List Bio)) → (option_map (λ _. r) o ≡ None) ⊎ (option_map (λ _. r) o ≡ Some r)
now_or_never r None = inl refl
now_or_never r (Some bios) = inr refl

-- no request enters later than now
pub release_within : (es : List Happened) (id : ℕ) → release_of es id ≤ round_of es
unfolding release_of timed round_of
release_within es id =
    by_events (λ l. release_of l id ≤ round_of l) (omega arith)
    (λ es e ih. rw (release_more es e id) (max_within (release_of es id) (round_of es) (round_of (es ++ e ∷ [])) _ (omega (arith, ih, round_rises es e)) (now_or_never (round_of es) (enters_under id e)) (round_rises es e)))
    es

-- the due round of a released id, against the round that is on
pub record IsDueSoon (setup : Setup) (es : List Happened) (id : ℕ) : Type 0 where
  pub first : ℕ
  pub rest : List ℕ
  pub dues_are : dues setup es id ≡ first ∷ rest
  pub early : due_of setup es id ≤ round_of es + expire_of setup (dir_of (request_of es id))

-- what a request that enters under the id leaves
pub record IsEntered (setup : Setup) (es fs : List Happened) (id : ℕ) (bios : List Bio) : Type 0 where
  pub request : request_of fs id ≡ join_up (request_of es id) bios
  pub release : release_of fs id ≡ max (release_of es id) (round_of es)
  pub dues_are : dues setup fs id ≡ dues setup es id ++ (round_of es + expire_of setup (dir_of bios)) ∷ []

entered_from : (setup : Setup) (es : List Happened) (e : Happened) (id : ℕ) (bios : List Bio) → enters_under id e ≡ Some bios → IsEntered setup es (es ++ e ∷ []) id bios
entered_from setup es e id bios here = record {
  request = request_more es e id ∙ ap (λ o. fold join_up (request_of es id) (cons_option o [])) here;
  release = release_more es e id ∙ ap (λ o. fold max (release_of es id) (cons_option (option_map (λ _. round_of es) o) [])) here;
  dues_are = dues_more setup es e id ∙ ap (λ o. dues setup es id ++ cons_option (option_map (λ bios. round_of es + expire_of setup (dir_of bios)) o) []) here;
}

pub entered_released : (setup : Setup) (es : List Happened) (i id : ℕ) (q : List Bio) → (i == id) ≡ true → IsEntered setup es (es ++ Release i q ∷ []) id q
entered_released setup es i id q t = entered_from setup es (Release i q) id q (rw t refl)

pub entered_joined : (setup : Setup) (es : List Happened) (i id : ℕ) (q : List Bio) → (i == id) ≡ true → IsEntered setup es (es ++ Join i q ∷ []) id q
entered_joined setup es i id q t = entered_from setup es (Join i q) id q (rw t refl)

least_push : (x : ℕ) (xs : List ℕ) (y : ℕ) → least ((x ∷ xs) ++ y ∷ []) ≡ min (least (x ∷ xs)) y
least_push x xs y = fold_push min x xs y

-- a first request
first_soon : (setup : Setup) (es fs : List Happened) (id : ℕ) (q : List Bio) → HasNothing setup es id → IsEntered setup es fs id q → round_of es ≤ round_of fs → IsDueSoon setup fs id
first_soon setup es fs id q none new rises =
    let all : dues setup fs id ≡ (round_of es + expire_of setup (dir_of q)) ∷ [] = new.dues_are ∙ ap (λ l. l ++ (round_of es + expire_of setup (dir_of q)) ∷ []) none.dues_are in
    let request : request_of fs id ≡ q = new.request ∙ ap (λ l. join_up l q) none.request in
    let due : due_of setup fs id ≡ round_of es + expire_of setup (dir_of q) = due_is setup fs id ∙ ap least all in
    record {
      first = round_of es + expire_of setup (dir_of q);
      rest = [];
      dues_are = all;
      early = rw (request, due) (omega arith);
    }

-- a further one of its direction
pub next_soon : (setup : Setup) (es fs : List Happened) (id : ℕ) (q : List Bio) → IsDueSoon setup es id → IsEntered setup es fs id q → dir_of q ≡ dir_of (request_of es id) → round_of es ≤ round_of fs → IsDueSoon setup fs id × (due_of setup fs id ≡ due_of setup es id)
next_soon setup es fs id q old new same rises =
    let all : dues setup fs id ≡ (old.first ∷ old.rest) ++ (round_of es + expire_of setup (dir_of q)) ∷ [] = new.dues_are ∙ ap (λ l. l ++ (round_of es + expire_of setup (dir_of q)) ∷ []) old.dues_are in
    let was : due_of setup es id ≡ least (old.first ∷ old.rest) = due_is setup es id ∙ ap least old.dues_are in
    let due : due_of setup fs id ≡ min (due_of setup es id) (round_of es + expire_of setup (dir_of q)) = due_is setup fs id ∙ ap least all ∙ least_push old.first old.rest _ ∙ ap (λ n. min n (round_of es + expire_of setup (dir_of q))) (sym was) in
    let dir : dir_of (request_of fs id) ≡ dir_of (request_of es id) = ap dir_of new.request ∙ dir_join (request_of es id) q same in
    let expire : expire_of setup (dir_of q) ≡ expire_of setup (dir_of (request_of es id)) = ap (expire_of setup) same in
    let kept : due_of setup fs id ≡ due_of setup es id = omega (arith, old.early) in (
      record {
        first = old.first;
        rest = old.rest ++ (round_of es + expire_of setup (dir_of q)) ∷ [];
        dues_are = all;
        early = rw (dir, kept) (omega (arith, old.early));
      },
      kept,
    )

same_soon : (setup : Setup) (es fs : List Happened) (id : ℕ) → IsDueSoon setup es id → IsSame setup es fs id → round_of es ≤ round_of fs → IsDueSoon setup fs id
same_soon setup es fs id old same rises = record {
  first = old.first;
  rest = old.rest;
  dues_are = same.dues_are ∙ old.dues_are;
  early = rw (same.request, same.due) (omega (arith, old.early));
}

-- the tests with one more event
pub or_no : (x y : Bool) → y ≡ false → (x || y) ≡ x
or_no true y h = refl
or_no false y h = h

pub has_released_same : (es : List Happened) (e : Happened) (id : ℕ) → has_id (released_ids (e ∷ [])) id ≡ false → has_id (released_ids (es ++ e ∷ [])) id ≡ has_id (released_ids es) id
has_released_same es e id h = has_released_more es e id ∙ or_no _ _ h

pub has_issued_same : (es : List Happened) (e : Happened) (id : ℕ) → requeues e ≡ None → has_id (new_ids e) id ≡ false → has_id (issued_ids (es ++ e ∷ [])) id ≡ has_id (issued_ids es) id
has_issued_same es e id n h = has_issued_more es e id n ∙ or_no _ _ h

-- a Release of an id that was not released
pub nothing_before : (setup : Setup) (es : List Happened) (i id : ℕ) (q : List Bio) → IsLegalTrace setup es → BreaksNoRule setup es (Release i q) → (i == id) ≡ true → HasNothing setup es id
nothing_before setup es i id q old all t =
    let same : i ≡ id = eqb-true i id t in
    nothing setup es id old (not_released es id (subst (λ x. IsReleased es x → ⊥) same (all ReleasedTwice)))

-- one more event
soon_more : (setup : Setup) (es : List Happened) (e : Happened) (id : ℕ) → IsLegalTrace setup es → BreaksNoRule setup es e → (has_id (released_ids es) id ≡ true → IsDueSoon setup es id) → has_id (released_ids (es ++ e ∷ [])) id ≡ true → IsDueSoon setup (es ++ e ∷ []) id
unfolding released_ids
soon_more setup es (Release i q) id old all ih h =
    elim (cases_Bool (i == id)) [
      | inl t ↦ first_soon setup es _ id q (nothing_before setup es i id q old all t) (entered_released setup es i id q t) (round_rises es (Release i q))
      | inr t ↦ same_soon setup es _ id (ih (sym (has_released_same es (Release i q) id (rw t refl)) ∙ h)) (same_entered setup es (Release i q) id t) (round_rises es (Release i q))
    ]
soon_more setup es (Join i q) id old all ih h =
    let was : has_id (released_ids es) id ≡ true = sym (has_released_same es (Join i q) id refl) ∙ h in
    elim (cases_Bool (i == id)) [
      | inl t ↦
          let same : i ≡ id = eqb-true i id t in
          let fit = all Fit in
          (next_soon setup es _ id q (ih was) (entered_joined setup es i id q t) (subst (λ x. dir_of q ≡ dir_of (request_of es x)) same fit.1.same_direction) (round_rises es (Join i q))).0
      | inr t ↦ same_soon setup es _ id (ih was) (same_entered setup es (Join i q) id t) (round_rises es (Join i q))
    ]
soon_more setup es e id old all ih h = same_soon setup es _ id (ih (sym (has_released_same es e id refl) ∙ h)) (same_entered setup es e id refl) (round_rises es e)

pub soon : (setup : Setup) (es : List Happened) (id : ℕ) → IsLegalTrace setup es → has_id (released_ids es) id ≡ true → IsDueSoon setup es id
unfolding released_ids
soon setup es id legal h =
    by_legal setup (λ l. has_id (released_ids l) id ≡ true → IsDueSoon setup l id) (λ t. absurd (cc)) (λ es e new old all ih t. soon_more setup es e id old all ih t) es legal h

-- no event that obeys the rules enters a request under an id that was issued
pub stays_out : (setup : Setup) (es : List Happened) (e : Happened) (id : ℕ) → IsLegalTrace setup es → BreaksNoRule setup es e → IsIssued es id → enters_as id e ≡ false
stays_out setup es (Release i q) id old all p = ne_eqb i id (λ same. all ReleasedTwice (subst (IsReleased es) (sym same) (released_first setup es id old p)))
stays_out setup es (Join i q) id old all p = ne_eqb i id (λ same. all AlreadyIssued (subst (IsIssued es) (sym same) p))
stays_out setup es e id old all p = refl
