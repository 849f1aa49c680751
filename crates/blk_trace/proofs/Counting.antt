-- Counts of a list under a changed test.
use Rattle.std.proofs.Common.{◌≡◌, ◌+◌, ◌*◌, ◌++◌, ◌==◌, ℕ, List, [], ◌∷◌, length, refl, sym, ◌∙◌, ap, subst, arith, inl, inr, append-nil, cond, Bool, true, false, ne_eqb, eq-eqb, eqb-true}
use Rattle.std.specs.Prelude.{◌||◌, not, count_by, nat_le, filter, None, option_map}
use Rattle.std.specs.List.{cons_option}
use Rattle.std.proofs.lemmas.List.Sums.{sum_by-cons, sum_by_push, length-filter}
use Rattle.std.proofs.lemmas.Bool.{cases_Bool, or_right, or_left, cond_both}
use Rattle.blk_bio.specs.Bios.{Bio}
use Rattle.blk_bio.specs.declared.rule.TraceRule.TheVariants.{ReleasedTwice, Unknown, AlreadyIssued}
use Rattle.blk_trace.specs.Happened.{Happened, Tick, Release, Join, Issue, Done}
use Rattle.blk_trace.specs.Kinds.{releases, issues, requeues}
use Rattle.blk_trace.specs.Setups.{Setup}
use Rattle.blk_trace.specs.Events.{IsReleased}
use Rattle.blk_trace.specs.Legal.{IsLegalTrace}
use Rattle.blk_trace.specs.Rules.{BreaksNoRule}
use Rattle.blk_trace.specs.Meaning.{issued_ids, released_ids, put_rising, rising, waiting_ids}
use Rattle.blk_trace.specs.Waits.{has_id, waiting_count}
use Rattle.blk_trace.proofs.Pushing.{shorter_legal, obeys}
use Rattle.blk_trace.proofs.More.{released_more}
use Rattle.blk_trace.proofs.Served.{issued_more}
use Rattle.blk_trace.proofs.Ids.{by_legal, released_has, not_released, not_issued, all_back, has_released_more, has_issued_more, released_first}
use Rattle.blk_trace.proofs.Entering.{has_released_same, has_issued_same}

-- 1 where it is so
abbrev pub one_if : Bool → ℕ
one_if b = cond b 1 0

pub count-cons : (p : ℕ → Bool) (x : ℕ) (xs : List ℕ) → count_by p (x ∷ xs) ≡ cond (p x) 1 0 + count_by p xs
count-cons p x xs = sum_by-cons (λ (y : ℕ). cond (p y) 1 0) x xs

pub count_push : (p : ℕ → Bool) (xs : List ℕ) (x : ℕ) → count_by p (xs ++ x ∷ []) ≡ count_by p xs + cond (p x) 1 0
count_push p xs x = sum_by_push (λ (y : ℕ). cond (p y) 1 0) xs x

pub count_none : (p : ℕ → Bool) (xs : List ℕ) → ((x : ℕ) → p x ≡ false) → count_by p xs ≡ 0
count_none p [] h = refl
count_none p (x ∷ xs) h =
    let here : one_if (p x) ≡ 0 = rw (h x) refl in
    omega (arith, count-cons p x xs, count_none p xs h)

pub count_same : (p q : ℕ → Bool) (xs : List ℕ) → ((x : ℕ) → p x ≡ q x) → count_by p xs ≡ count_by q xs
count_same p q [] h = refl
count_same p q (x ∷ xs) h =
    let here : one_if (p x) ≡ one_if (q x) = ap one_if (h x) in
    omega (arith, count-cons p x xs, count-cons q x xs, count_same p q xs h)

-- two tests that differ at one number alone
pub count_change : (p q : ℕ → Bool) (u c : ℕ) (xs : List ℕ) → ((x : ℕ) → (u == x) ≡ false → p x ≡ q x) → cond (p u) 1 0 + c ≡ cond (q u) 1 0 → count_by p xs + count_by (λ x. u == x) xs * c ≡ count_by q xs
count_change p q u c [] h at = omega arith
count_change p q u c (x ∷ xs) h at =
    let ih : count_by p xs + count_by (λ x. u == x) xs * c ≡ count_by q xs = count_change p q u c xs h at in
    let ps = count-cons p x xs in
    let qs = count-cons q x xs in
    let us : count_by (λ x. u == x) (x ∷ xs) ≡ one_if (u == x) + count_by (λ x. u == x) xs = count-cons (λ x. u == x) x xs in
    elim (cases_Bool (u == x)) [
      | inl b ↦
          let one : one_if (u == x) ≡ 1 = rw b refl in
          let here : one_if (p x) + c ≡ one_if (q x) = subst (λ y. one_if (p y) + c ≡ one_if (q y)) (eqb-true u x b) at in
          let n : count_by (λ x. u == x) (x ∷ xs) ≡ 1 + count_by (λ x. u == x) xs = omega arith in
          rw n (omega arith)
      | inr b ↦
          let none : one_if (u == x) ≡ 0 = rw b refl in
          let here : one_if (p x) ≡ one_if (q x) = ap one_if (h x b) in
          let n : count_by (λ x. u == x) (x ∷ xs) ≡ count_by (λ x. u == x) xs = omega arith in
          rw n (omega arith)
    ]

pub count_without : (p q : ℕ → Bool) (u c : ℕ) (xs : List ℕ) → ((x : ℕ) → (u == x) ≡ false → p x ≡ q x) → cond (p u) 1 0 + c ≡ cond (q u) 1 0 → count_by (λ x. u == x) xs ≡ 0 → count_by p xs ≡ count_by q xs
count_without p q u c xs h at n =
    let all : count_by p xs + count_by (λ x. u == x) xs * c ≡ count_by q xs = count_change p q u c xs h at in
    let now : count_by p xs + 0 * c ≡ count_by q xs = subst (λ k. count_by p xs + k * c ≡ count_by q xs) n all in
    omega (arith, now)

pub count_once : (p q : ℕ → Bool) (u c : ℕ) (xs : List ℕ) → ((x : ℕ) → (u == x) ≡ false → p x ≡ q x) → cond (p u) 1 0 + c ≡ cond (q u) 1 0 → count_by (λ x. u == x) xs ≡ 1 → count_by p xs + c ≡ count_by q xs
count_once p q u c xs h at n =
    let all : count_by p xs + count_by (λ x. u == x) xs * c ≡ count_by q xs = count_change p q u c xs h at in
    let now : count_by p xs + 1 * c ≡ count_by q xs = subst (λ k. count_by p xs + k * c ≡ count_by q xs) n all in
    omega (arith, now)

-- an id stands once among the released ones
once_step : (setup : Setup) (u : ℕ) (es : List Happened) (e : Happened) → BreaksNoRule setup es e → count_by (λ t. u == t) (released_ids es) ≡ cond (has_id (released_ids es) u) 1 0 → count_by (λ t. u == t) (released_ids (es ++ e ∷ [])) ≡ cond (has_id (released_ids (es ++ e ∷ [])) u) 1 0
unfolding released_ids
once_step setup u es (Release i q) all ih =
    let more : count_by (λ t. u == t) (released_ids (es ++ Release i q ∷ [])) ≡ count_by (λ t. u == t) (released_ids es) + one_if (u == i) = ap (count_by (λ t. u == t)) (released_more es (Release i q ∷ [])) ∙ count_push (λ t. u == t) (released_ids es) i in
    elim (cases_Bool (i == u)) [
      | inl b ↦
          let same : i ≡ u = eqb-true i u b in
          let none : has_id (released_ids es) u ≡ false = not_released es u (subst (λ x. IsReleased es x → ⊥) same (all ReleasedTwice)) in
          let zero_before : one_if (has_id (released_ids es) u) ≡ 0 = rw none refl in
          let one : one_if (u == i) ≡ 1 = rw (eq-eqb u i (sym same)) refl in
          let now : has_id (released_ids (es ++ Release i q ∷ [])) u ≡ true = has_released_more es (Release i q) u ∙ or_right (has_id (released_ids es) u) ((i == u) || false) (or_left (i == u) false b) in
          rw now (omega arith)
      | inr b ↦
          let other : one_if (u == i) ≡ 0 = rw (ne_eqb u i (λ e. absurd (let t : (i == u) ≡ true = eq-eqb i u (sym e) in cc))) refl in
          let kept : has_id (released_ids (es ++ Release i q ∷ [])) u ≡ has_id (released_ids es) u = has_released_same es (Release i q) u (rw b refl) in
          rw kept (omega arith)
    ]
once_step setup u es e all ih = rw (released_more es (e ∷ []), append-nil (released_ids es)) ih

pub released_times : (setup : Setup) (es : List Happened) (u : ℕ) → IsLegalTrace setup es → count_by (λ t. u == t) (released_ids es) ≡ one_if (has_id (released_ids es) u)
unfolding released_ids
released_times setup es u legal =
    by_legal setup (λ l. count_by (λ t. u == t) (released_ids l) ≡ one_if (has_id (released_ids l) u)) refl (λ l e new old all ih. once_step setup u l e all ih) es legal

pub released_one : (setup : Setup) (es : List Happened) (u : ℕ) → IsLegalTrace setup es → has_id (released_ids es) u ≡ true → count_by (λ t. u == t) (released_ids es) ≡ 1
released_one setup es u legal h = released_times setup es u legal ∙ ap one_if h

-- how many wait
length_put : (x : ℕ) (xs : List ℕ) → length (put_rising x xs) ≡ length xs + 1
length_put x [] = refl
length_put x (y ∷ ys) = cond_both (nat_le x y) (x ∷ y ∷ ys) (y ∷ put_rising x ys) (λ l. length l ≡ length (y ∷ ys) + 1) (λ _. omega arith) (λ _. omega (arith, length_put x ys))

length_rising : (xs : List ℕ) → length (rising xs) ≡ length xs
unfolding rising
length_rising [] = refl
length_rising (x ∷ xs) = omega (arith, length_put x (rising xs), length_rising xs)

pub waiting_is : (es : List Happened) → waiting_count es ≡ count_by (λ id. not (has_id (issued_ids es) id)) (released_ids es)
unfolding waiting_ids
waiting_is es = length_rising (filter (λ id. not (has_id (issued_ids es) id)) (released_ids es)) ∙ length-filter (λ id. not (has_id (issued_ids es) id)) (released_ids es)

same_waiting : (es fs : List Happened) → released_ids fs ≡ released_ids es → issued_ids fs ≡ issued_ids es → waiting_count fs ≡ waiting_count es
unfolding waiting_ids
same_waiting es fs h i = rw (h, i) refl

-- an event that releases and issues nothing, and hands nothing back
pub count_kept : (events : List Happened) (e : Happened) → releases e ≡ None → issues e ≡ None → requeues e ≡ None → waiting_count (events ++ e ∷ []) ≡ waiting_count events
unfolding released_ids issued_ids
count_kept events e r i n =
    same_waiting events _
    (released_more events (e ∷ []) ∙ ap (λ o. released_ids events ++ cons_option (option_map (λ p. p.0) o) []) r ∙ append-nil _)
    (issued_more events e n ∙ ap (λ o. issued_ids events ++ cons_option (option_map (λ p. p.0) o) []) i ∙ append-nil _)

pub count-ticked : (setup : Setup) (events : List Happened) → IsLegalTrace setup (events ++ Tick ∷ []) → waiting_count (events ++ Tick ∷ []) ≡ waiting_count events
count-ticked setup events legal = count_kept events Tick refl refl refl

pub count-joined : (setup : Setup) (events : List Happened) (id : ℕ) (bios : List Bio) → IsLegalTrace setup (events ++ Join id bios ∷ []) → waiting_count (events ++ Join id bios ∷ []) ≡ waiting_count events
count-joined setup events id bios legal = count_kept events (Join id bios) refl refl refl

pub count-finished : (setup : Setup) (events : List Happened) (tag : ℕ) → IsLegalTrace setup (events ++ Done tag ∷ []) → waiting_count (events ++ Done tag ∷ []) ≡ waiting_count events
count-finished setup events tag legal = count_kept events (Done tag) refl refl refl

pub count-released : (setup : Setup) (events : List Happened) (id : ℕ) (bios : List Bio) → IsLegalTrace setup (events ++ Release id bios ∷ []) → waiting_count (events ++ Release id bios ∷ []) ≡ waiting_count events + 1
unfolding released_ids issued_ids
count-released setup events id bios legal =
    let old = shorter_legal setup events _ legal in
    let all = obeys setup events _ legal in
    let es : List Happened = events ++ Release id bios ∷ [] in
    let issued : issued_ids es ≡ issued_ids events = issued_more events (Release id bios) refl ∙ append-nil _ in
    let released : released_ids es ≡ released_ids events ++ id ∷ [] = released_more events (Release id bios ∷ []) in
    let unissued : has_id (issued_ids events) id ≡ false = not_issued events id (λ p. all ReleasedTwice (released_first setup events id old p)) in
    let one : one_if (not (has_id (issued_ids events) id)) ≡ 1 = rw unissued refl in
    let now : waiting_count es ≡ count_by (λ x. not (has_id (issued_ids events) x)) (released_ids events ++ id ∷ []) = waiting_is es ∙ ap (λ l. count_by (λ x. not (has_id l x)) (released_ids es)) issued ∙ ap (count_by (λ x. not (has_id (issued_ids events) x))) released in
    let push : count_by (λ x. not (has_id (issued_ids events) x)) (released_ids events ++ id ∷ []) ≡ count_by (λ x. not (has_id (issued_ids events) x)) (released_ids events) + one_if (not (has_id (issued_ids events) id)) = count_push (λ x. not (has_id (issued_ids events) x)) (released_ids events) id in
    omega (arith, waiting_is events)

pub count-issued : (setup : Setup) (events : List Happened) (id tag : ℕ) → IsLegalTrace setup (events ++ Issue id tag ∷ []) → waiting_count (events ++ Issue id tag ∷ []) + 1 ≡ waiting_count events
unfolding released_ids issued_ids
count-issued setup events id tag legal =
    let old = shorter_legal setup events _ legal in
    let all = obeys setup events _ legal in
    let es : List Happened = events ++ Issue id tag ∷ [] in
    let released : released_ids es ≡ released_ids events = released_more events (Issue id tag ∷ []) ∙ append-nil _ in
    let here : IsReleased events id = all Unknown in
    let once : count_by (λ t. id == t) (released_ids events) ≡ 1 = released_one setup events id old (released_has events here.0 id here.1.0 here.1.1) in
    let unissued : has_id (issued_ids events) id ≡ false = all_back events id (all AlreadyIssued) in
    let issued : has_id (issued_ids es) id ≡ true = has_issued_more events (Issue id tag) id refl ∙ or_right (has_id (issued_ids events) id) ((id == id) || false) (or_left (id == id) false (eq-eqb id id refl)) in
    let fewer : count_by (λ x. not (has_id (issued_ids es) x)) (released_ids events) + 1 ≡ count_by (λ x. not (has_id (issued_ids events) x)) (released_ids events) =
    count_once (λ x. not (has_id (issued_ids es) x)) (λ x. not (has_id (issued_ids events) x)) id 1 (released_ids events) (λ x b. ap not (has_issued_same events (Issue id tag) x refl (rw b refl))) (rw (issued, unissued) refl) once in
    let now : waiting_count es ≡ count_by (λ x. not (has_id (issued_ids es) x)) (released_ids events) = waiting_is es ∙ ap (count_by (λ x. not (has_id (issued_ids es) x))) released in
    omega (arith, waiting_is events)
