-- The bios of the issued requests and of those that wait are the bios that entered.
use Rattle.std.proofs.Common.{◌≡◌, ◌++◌, ◌==◌, ℕ, List, [], ◌∷◌, None, refl, sym, ◌∙◌, ap, subst, arith, inl, inr, append-nil, append_assoc, cond, Bool, true, false, ne_eqb, eq-eqb, eqb-true}
use Rattle.std.specs.Prelude.{option_map, ◌||◌, not, count_by, filter, nat_le, IsPermutation}
use Rattle.std.specs.List.{flat_map, cons_option}
use Rattle.std.proofs.lemmas.List.Concat.{flat_map-append}
use Rattle.std.proofs.lemmas.List.Elements.{filter-append}
use Rattle.std.proofs.lemmas.List.Sorted.{IsPermutation-refl, IsPermutation-sym, IsPermutation-trans, IsPermutation-append_left, IsPermutation-append_right, IsPermutation-append_comm}
use Rattle.std.proofs.lemmas.Bool.{cases_Bool, or_right, or_left, or_cases, cond_both, not_from_false, both_ways}
use Rattle.blk_bio.specs.Bios.{Bio}
use Rattle.blk_bio.specs.Requests.{first_of, last_of}
use Rattle.blk_bio.specs.declared.rule.TraceRule.TheVariants.{ReleasedTwice, Unknown, AlreadyIssued, NotIssued}
use Rattle.blk_trace.specs.Happened.{Happened, Release, Join, Issue, Back}
use Rattle.blk_trace.specs.Kinds.{issues, requeues}
use Rattle.blk_trace.specs.Setups.{Setup}
use Rattle.blk_trace.specs.Events.{join_up, request_of, entered, bios_of, IsReleased, IsOpen, IsOpenBy}
use Rattle.blk_trace.specs.Legal.{IsLegalTrace}
use Rattle.blk_trace.specs.Rules.{BreaksNoRule}
use Rattle.blk_trace.specs.Issues.{issues_from}
use Rattle.blk_trace.specs.Meaning.{served, issued_ids, released_ids, put_rising, rising, waiting_ids, waiting_of}
use Rattle.blk_trace.specs.Waits.{has_id}
use Rattle.blk_trace.specs.Laws.{IsAccounted}
use Rattle.blk_trace.proofs.Pushing.{entered_more}
use Rattle.blk_trace.proofs.More.{released_more}
use Rattle.blk_trace.proofs.Served.{issued_more}
use Rattle.blk_trace.proofs.Requeuing.{LosesIssue, requeued, IsOut, requeued_ids, open_by}
use Rattle.blk_trace.proofs.Requeues.{open_issued}
use Rattle.blk_trace.proofs.Ids.{by_legal, all_back, released_has, has_issued, not_released, not_issued, has_issued_more, released_first}
use Rattle.blk_trace.proofs.Entering.{HasNothing, IsEntered, nothing_before, same_entered, entered_released, entered_joined, stays_out, has_issued_same}
use Rattle.blk_trace.proofs.Counting.{one_if, count-cons, released_one}

trans : {X : Type 0} (xs ys zs : List X) → IsPermutation xs ys → IsPermutation ys zs → IsPermutation xs zs
trans xs ys zs p q = IsPermutation-trans xs ys zs p q

turned : {X : Type 0} (xs ys : List X) → IsPermutation xs ys → IsPermutation ys xs
turned xs ys p = IsPermutation-sym xs ys p

-- equal lists
same : {X : Type 0} (xs ys : List X) → xs ≡ ys → IsPermutation xs ys
same xs ys e = subst (IsPermutation xs) e (IsPermutation-refl xs)

-- the parts of two functions that agree on the ids of a list
pub parts_same : (f g : ℕ → List Bio) (xs : List ℕ) → ((x : ℕ) → has_id xs x ≡ true → f x ≡ g x) → flat_map f xs ≡ flat_map g xs
parts_same f g [] h = refl
parts_same f g (x ∷ xs) h =
    let one : f x ≡ g x = h x (or_left (x == x) (has_id xs x) (eq-eqb x x refl)) in
    let more : flat_map f xs ≡ flat_map g xs = parts_same f g xs (λ y e. h y (or_right (x == y) (has_id xs y) e)) in
    cc

absent : (u x : ℕ) (xs : List ℕ) → count_by (λ y. u == y) (x ∷ xs) ≡ 0 → ((u == x) ≡ false) × (count_by (λ y. u == y) xs ≡ 0)
absent u x xs h =
    let more = count-cons (λ y. u == y) x xs in
    elim (cases_Bool (u == x)) [
      | inl b ↦ absurd (let one : one_if (u == x) ≡ 1 = ap one_if b in omega arith)
      | inr b ↦ (b, omega arith)
    ]

-- two functions that agree but at one id, over a list without it
pub parts_without : (f g : ℕ → List Bio) (u : ℕ) (xs : List ℕ) → ((x : ℕ) → (u == x) ≡ false → f x ≡ g x) → count_by (λ y. u == y) xs ≡ 0 → flat_map f xs ≡ flat_map g xs
parts_without f g u [] h n = refl
parts_without f g u (x ∷ xs) h n =
    let p = absent u x xs n in
    let one : f x ≡ g x = h x p.0 in
    let more : flat_map f xs ≡ flat_map g xs = parts_without f g u xs h p.1 in
    cc

-- and over a list with it once, where the one function has more bios there
pub parts_once : (f g : ℕ → List Bio) (u : ℕ) (q : List Bio) (xs : List ℕ) → ((x : ℕ) → (u == x) ≡ false → f x ≡ g x) → IsPermutation (f u) (g u ++ q) → count_by (λ y. u == y) xs ≡ 1 → IsPermutation (flat_map f xs) (flat_map g xs ++ q)
parts_once f g u q [] h p n = absurd (omega arith)
parts_once f g u q (x ∷ xs) h p n =
    let more = count-cons (λ y. u == y) x xs in
    elim (cases_Bool (u == x)) [
      | inl b ↦
          let one : one_if (u == x) ≡ 1 = ap one_if b in
          let rest : flat_map f xs ≡ flat_map g xs = parts_without f g u xs h (omega arith) in
          let here : IsPermutation (f x) (g x ++ q) = subst (λ y. IsPermutation (f y) (g y ++ q)) (eqb-true u x b) p in
          let moved : IsPermutation ((g x ++ q) ++ flat_map g xs) ((g x ++ flat_map g xs) ++ q) =
          trans _ (g x ++ (q ++ flat_map g xs)) _ (same _ _ (append_assoc (g x) q (flat_map g xs)))
          (trans _ (g x ++ (flat_map g xs ++ q)) _ (IsPermutation-append_right (g x) (q ++ flat_map g xs) (flat_map g xs ++ q) (IsPermutation-append_comm q (flat_map g xs))) (same _ _ (sym (append_assoc (g x) (flat_map g xs) q)))) in
          rw rest (trans (f x ++ flat_map g xs) ((g x ++ q) ++ flat_map g xs) ((g x ++ flat_map g xs) ++ q) (IsPermutation-append_left (flat_map g xs) (f x) (g x ++ q) here) moved)
      | inr b ↦
          let none : one_if (u == x) ≡ 0 = ap one_if b in
          let here : f x ≡ g x = h x b in
          let rest : IsPermutation (flat_map f xs) (flat_map g xs ++ q) = parts_once f g u q xs h p (omega arith) in
          rw here (trans (g x ++ flat_map f xs) (g x ++ (flat_map g xs ++ q)) ((g x ++ flat_map g xs) ++ q) (IsPermutation-append_right (g x) (flat_map f xs) (flat_map g xs ++ q) rest) (same _ _ (sym (append_assoc (g x) (flat_map g xs) q))))
    ]

-- a joined request has the bios of both
pub joined_all : (bs n : List Bio) → IsPermutation (join_up bs n) (bs ++ n)
joined_all [] n = IsPermutation-refl n
joined_all (b ∷ bs) n = cond_both (first_of n == last_of (b ∷ bs)) ((b ∷ bs) ++ n) (n ++ (b ∷ bs)) (λ l. IsPermutation l ((b ∷ bs) ++ n)) (λ _. IsPermutation-refl ((b ∷ bs) ++ n)) (λ _. IsPermutation-append_comm n (b ∷ bs))

-- a list in rising order has the parts of the list
put_parts : (f : ℕ → List Bio) (x : ℕ) (xs : List ℕ) → IsPermutation (flat_map f (put_rising x xs)) (f x ++ flat_map f xs)
put_parts f x [] = IsPermutation-refl (f x ++ [])
put_parts f x (y ∷ ys) =
    let moved : IsPermutation (f y ++ (f x ++ flat_map f ys)) (f x ++ (f y ++ flat_map f ys)) =
    trans _ ((f y ++ f x) ++ flat_map f ys) _ (same _ _ (sym (append_assoc (f y) (f x) (flat_map f ys))))
    (trans _ ((f x ++ f y) ++ flat_map f ys) _ (IsPermutation-append_left (flat_map f ys) (f y ++ f x) (f x ++ f y) (IsPermutation-append_comm (f y) (f x))) (same _ _ (append_assoc (f x) (f y) (flat_map f ys)))) in
    cond_both (nat_le x y) (x ∷ y ∷ ys) (y ∷ put_rising x ys) (λ l. IsPermutation (flat_map f l) (f x ++ (f y ++ flat_map f ys)))
    (λ _. IsPermutation-refl (f x ++ (f y ++ flat_map f ys)))
    (λ _. trans (f y ++ flat_map f (put_rising x ys)) (f y ++ (f x ++ flat_map f ys)) (f x ++ (f y ++ flat_map f ys)) (IsPermutation-append_right (f y) (flat_map f (put_rising x ys)) (f x ++ flat_map f ys) (put_parts f x ys)) moved)

pub rising_parts : (f : ℕ → List Bio) (xs : List ℕ) → IsPermutation (flat_map f (rising xs)) (flat_map f xs)
unfolding rising
rising_parts f [] = IsPermutation-refl []
rising_parts f (x ∷ xs) = trans (flat_map f (put_rising x (rising xs))) (f x ++ flat_map f (rising xs)) (f x ++ flat_map f xs) (put_parts f x (rising xs)) (IsPermutation-append_right (f x) (flat_map f (rising xs)) (flat_map f xs) (rising_parts f xs))

-- filters
pub keeps_id : (p : ℕ → Bool) (u : ℕ) (xs : List ℕ) → p u ≡ true → count_by (λ y. u == y) (filter p xs) ≡ count_by (λ y. u == y) xs
keeps_id p u [] h = refl
keeps_id p u (x ∷ xs) h =
    elim (cases_Bool (p x)) [
      | inl b ↦ rw b (omega (arith, count-cons (λ y. u == y) x xs, count-cons (λ y. u == y) x (filter p xs), keeps_id p u xs h))
      | inr b ↦
          let other : (u == x) ≡ false = elim (cases_Bool (u == x)) [
            | inl c ↦ absurd (let t : p x ≡ true = subst (λ y. p y ≡ true) (eqb-true u x c) h in cc)
            | inr c ↦ c
          ] in
          let none : one_if (u == x) ≡ 0 = ap one_if other in
          rw b (omega (arith, count-cons (λ y. u == y) x xs, keeps_id p u xs h))
    ]

filter_without : (p r : ℕ → Bool) (u : ℕ) (xs : List ℕ) → ((x : ℕ) → (u == x) ≡ false → p x ≡ r x) → count_by (λ y. u == y) xs ≡ 0 → filter p xs ≡ filter r xs
filter_without p r u [] h n = refl
filter_without p r u (x ∷ xs) h n =
    let s = absent u x xs n in
    let one : p x ≡ r x = h x s.0 in
    let more : filter p xs ≡ filter r xs = filter_without p r u xs h s.1 in
    rw (one, more) refl

-- one that passes no more takes its part away
filter_once : (f : ℕ → List Bio) (p r : ℕ → Bool) (u : ℕ) (xs : List ℕ) → ((x : ℕ) → (u == x) ≡ false → p x ≡ r x) → p u ≡ true → r u ≡ false → count_by (λ y. u == y) xs ≡ 1 → IsPermutation (f u ++ flat_map f (filter r xs)) (flat_map f (filter p xs))
filter_once f p r u [] h t n c = absurd (omega arith)
filter_once f p r u (x ∷ xs) h t n c =
    let more = count-cons (λ y. u == y) x xs in
    elim (cases_Bool (u == x)) [
      | inl b ↦
          let one : one_if (u == x) ≡ 1 = ap one_if b in
          let is : u ≡ x = eqb-true u x b in
          let rest : filter r xs ≡ filter p xs = sym (filter_without p r u xs h (omega arith)) in
          let passes : p x ≡ true = subst (λ y. p y ≡ true) is t in
          let fails : r x ≡ false = subst (λ y. r y ≡ false) is n in
          rw (passes, fails, rest, is) (IsPermutation-refl (f x ++ flat_map f (filter p xs)))
      | inr b ↦
          let none : one_if (u == x) ≡ 0 = ap one_if b in
          let here : p x ≡ r x = h x b in
          let rest : IsPermutation (f u ++ flat_map f (filter r xs)) (flat_map f (filter p xs)) = filter_once f p r u xs h t n (omega arith) in
          elim (cases_Bool (r x)) [
            | inl d ↦
                let passes : p x ≡ true = here ∙ d in
                let moved : IsPermutation (f u ++ (f x ++ flat_map f (filter r xs))) (f x ++ (f u ++ flat_map f (filter r xs))) =
                trans _ ((f u ++ f x) ++ flat_map f (filter r xs)) _ (same _ _ (sym (append_assoc (f u) (f x) (flat_map f (filter r xs)))))
                (trans _ ((f x ++ f u) ++ flat_map f (filter r xs)) _ (IsPermutation-append_left (flat_map f (filter r xs)) (f u ++ f x) (f x ++ f u) (IsPermutation-append_comm (f u) (f x))) (same _ _ (append_assoc (f x) (f u) (flat_map f (filter r xs))))) in
                rw (passes, d) (trans (f u ++ (f x ++ flat_map f (filter r xs))) (f x ++ (f u ++ flat_map f (filter r xs))) (f x ++ flat_map f (filter p xs)) moved (IsPermutation-append_right (f x) (f u ++ flat_map f (filter r xs)) (flat_map f (filter p xs)) rest))
            | inr d ↦
                let fails : p x ≡ false = here ∙ d in
                rw (fails, d) rest
          ]
    ]

-- the ids that wait, in the order of their Releases
unfoldable pub waiting : List Happened → List ℕ
waiting es = filter (λ id. not (has_id (issued_ids es) id)) (released_ids es)

has_filter : (p : ℕ → Bool) (xs : List ℕ) (x : ℕ) → has_id (filter p xs) x ≡ true → has_id xs x ≡ true
has_filter p [] x h = h
has_filter p (y ∷ ys) x h =
    elim (cases_Bool (p y)) [
      | inl b ↦
          let there : has_id (y ∷ filter p ys) x ≡ true = rw b at h in
          elim (or_cases (y == x) (has_id (filter p ys) x) there) [
            | inl c ↦ or_left (y == x) (has_id ys x) c
            | inr c ↦ or_right (y == x) (has_id ys x) (has_filter p ys x c)
          ]
      | inr b ↦
          let there : has_id (filter p ys) x ≡ true = rw b at h in
          or_right (y == x) (has_id ys x) (has_filter p ys x there)
    ]

-- the bios of the issued requests, and of those that wait
abbrev all_of : List Happened → List Bio
all_of es = flat_map (request_of es) (issued_ids es) ++ flat_map (request_of es) (waiting es)

waiting_same : (es fs : List Happened) → released_ids fs ≡ released_ids es → issued_ids fs ≡ issued_ids es → waiting fs ≡ waiting es
unfolding waiting
waiting_same es fs h i = rw (h, i) refl

-- an event that enters nothing and releases and issues no id
quiet : (setup : Setup) (es : List Happened) (e : Happened) → released_ids (e ∷ []) ≡ [] → issues e ≡ None → requeues e ≡ None → bios_of e ≡ [] → ((x : ℕ) → request_of (es ++ e ∷ []) x ≡ request_of es x) → IsPermutation (all_of es) (entered es) → IsPermutation (all_of (es ++ e ∷ [])) (entered (es ++ e ∷ []))
quiet setup es e a b n c r ih =
    let fs : List Happened = es ++ e ∷ [] in
    let released : released_ids fs ≡ released_ids es = released_more es (e ∷ []) ∙ ap (λ l. released_ids es ++ l) a ∙ append-nil _ in
    let issued : issued_ids fs ≡ issued_ids es = issued_more es e n ∙ ap (λ o. issued_ids es ++ cons_option (option_map (λ p. p.0) o) []) b ∙ append-nil _ in
    let waits : waiting fs ≡ waiting es = waiting_same es fs released issued in
    let first : flat_map (request_of fs) (issued_ids es) ≡ flat_map (request_of es) (issued_ids es) = parts_same (request_of fs) (request_of es) (issued_ids es) (λ x _. r x) in
    let second : flat_map (request_of fs) (waiting es) ≡ flat_map (request_of es) (waiting es) = parts_same (request_of fs) (request_of es) (waiting es) (λ x _. r x) in
    let enters : entered fs ≡ entered es = entered_more es e ∙ ap (λ l. entered es ++ l) c ∙ append-nil _ in
    let all : all_of fs ≡ all_of es = ap (λ l. flat_map (request_of fs) l ++ flat_map (request_of fs) (waiting fs)) issued ∙ ap (λ l. flat_map (request_of fs) (issued_ids es) ++ flat_map (request_of fs) l) waits ∙ ap (λ l. l ++ flat_map (request_of fs) (waiting es)) first ∙ ap (λ l. flat_map (request_of es) (issued_ids es) ++ l) second in
    subst (λ l. IsPermutation l (entered fs)) (sym all) (subst (IsPermutation (all_of es)) (sym enters) ih)

-- the parts of ids that were released before a Release
issued_parts : (setup : Setup) (es : List Happened) (e : Happened) → IsLegalTrace setup es → BreaksNoRule setup es e → flat_map (request_of (es ++ e ∷ [])) (issued_ids es) ≡ flat_map (request_of es) (issued_ids es)
issued_parts setup es e old all = parts_same (request_of (es ++ e ∷ [])) (request_of es) (issued_ids es) (λ x h. (same_entered setup es e x (stays_out setup es e x old all (has_issued es x h))).request)

on_released : (setup : Setup) (es : List Happened) (i : ℕ) (q : List Bio) → IsLegalTrace setup es → BreaksNoRule setup es (Release i q) → IsPermutation (all_of es) (entered es) → IsPermutation (all_of (es ++ Release i q ∷ [])) (entered (es ++ Release i q ∷ []))
unfolding waiting released_ids issued_ids
on_released setup es i q old all ih =
    let e : Happened = Release i q in
    let fs : List Happened = es ++ e ∷ [] in
    let f : ℕ → List Bio = request_of fs in
    let g : ℕ → List Bio = request_of es in
    let released : released_ids fs ≡ released_ids es ++ i ∷ [] = released_more es (e ∷ []) in
    let issued : issued_ids fs ≡ issued_ids es = issued_more es e refl ∙ append-nil _ in
    let fresh : has_id (released_ids es) i ≡ false = not_released es i (all ReleasedTwice) in
    let unissued : not (has_id (issued_ids es) i) ≡ true = not_from_false _ (not_issued es i (λ p. all ReleasedTwice (released_first setup es i old p))) in
    let p : ℕ → Bool = λ id. not (has_id (issued_ids es) id) in
    let more : filter p (released_ids es ++ i ∷ []) ≡ filter p (released_ids es) ++ i ∷ [] = filter-append p (released_ids es) (i ∷ []) ∙ ap (λ b. filter p (released_ids es) ++ cond b (i ∷ []) []) unissued in
    let waits : waiting fs ≡ waiting es ++ i ∷ [] = ap (λ l. filter (λ id. not (has_id l id)) (released_ids fs)) issued ∙ ap (filter p) released ∙ more in
    let none : HasNothing setup es i = nothing_before setup es i i q old all (eq-eqb i i refl) in
    let new : IsEntered setup es fs i q = entered_released setup es i i q (eq-eqb i i refl) in
    let here : f i ≡ q = new.request ∙ ap (λ l. join_up l q) none.request in
    let other : (x : ℕ) → has_id (waiting es) x ≡ true → f x ≡ g x = λ x h. (same_entered setup es e x (ne_eqb i x (λ is. both_ways _ fresh (subst (λ y. has_id (released_ids es) y ≡ true) (sym is) (has_filter p (released_ids es) x h))))).request in
    let kept : flat_map f (waiting es) ≡ flat_map g (waiting es) = parts_same f g (waiting es) other in
    let last : flat_map f (waiting es ++ i ∷ []) ≡ flat_map g (waiting es) ++ q = flat_map-append f (waiting es) (i ∷ []) ∙ ap (λ l. l ++ (f i ++ [])) kept ∙ ap (λ l. flat_map g (waiting es) ++ l) (append-nil (f i) ∙ here) in
    let is : all_of fs ≡ all_of es ++ q =
    ap (λ l. flat_map f l ++ flat_map f (waiting fs)) issued ∙ ap (λ l. flat_map f (issued_ids es) ++ flat_map f l) waits ∙ ap (λ l. l ++ flat_map f (waiting es ++ i ∷ [])) (issued_parts setup es e old all) ∙ ap (λ l. flat_map g (issued_ids es) ++ l) last ∙ sym (append_assoc (flat_map g (issued_ids es)) (flat_map g (waiting es)) q) in
    subst (λ l. IsPermutation l (entered fs)) (sym is) (subst (IsPermutation (all_of es ++ q)) (sym (entered_more es e)) (IsPermutation-append_left q (all_of es) (entered es) ih))

on_joined : (setup : Setup) (es : List Happened) (i : ℕ) (q : List Bio) → IsLegalTrace setup es → BreaksNoRule setup es (Join i q) → IsPermutation (all_of es) (entered es) → IsPermutation (all_of (es ++ Join i q ∷ [])) (entered (es ++ Join i q ∷ []))
unfolding waiting released_ids issued_ids
on_joined setup es i q old all ih =
    let e : Happened = Join i q in
    let fs : List Happened = es ++ e ∷ [] in
    let f : ℕ → List Bio = request_of fs in
    let g : ℕ → List Bio = request_of es in
    let released : released_ids fs ≡ released_ids es = released_more es (e ∷ []) ∙ append-nil _ in
    let issued : issued_ids fs ≡ issued_ids es = issued_more es e refl ∙ append-nil _ in
    let waits : waiting fs ≡ waiting es = waiting_same es fs released issued in
    let p : ℕ → Bool = λ id. not (has_id (issued_ids es) id) in
    let unissued : p i ≡ true = not_from_false _ (not_issued es i (all AlreadyIssued)) in
    let there : IsReleased es i = all Unknown in
    let once : count_by (λ y. i == y) (waiting es) ≡ 1 = keeps_id p i (released_ids es) unissued ∙ released_one setup es i old (released_has es there.0 i there.1.0 there.1.1) in
    let new : IsEntered setup es fs i q = entered_joined setup es i i q (eq-eqb i i refl) in
    let here : IsPermutation (f i) (g i ++ q) = subst (λ l. IsPermutation l (g i ++ q)) (sym new.request) (joined_all (g i) q) in
    let more : IsPermutation (flat_map f (waiting es)) (flat_map g (waiting es) ++ q) = parts_once f g i q (waiting es) (λ x b. (same_entered setup es e x b).request) here once in
    let is : all_of fs ≡ flat_map g (issued_ids es) ++ flat_map f (waiting es) =
    ap (λ l. flat_map f l ++ flat_map f (waiting fs)) issued ∙ ap (λ l. flat_map f (issued_ids es) ++ flat_map f l) waits ∙ ap (λ l. l ++ flat_map f (waiting es)) (issued_parts setup es e old all) in
    let moved : IsPermutation (flat_map g (issued_ids es) ++ flat_map f (waiting es)) (all_of es ++ q) =
    trans _ (flat_map g (issued_ids es) ++ (flat_map g (waiting es) ++ q)) _ (IsPermutation-append_right (flat_map g (issued_ids es)) (flat_map f (waiting es)) (flat_map g (waiting es) ++ q) more) (same _ _ (sym (append_assoc (flat_map g (issued_ids es)) (flat_map g (waiting es)) q))) in
    subst (λ l. IsPermutation l (entered fs)) (sym is) (subst (IsPermutation (flat_map g (issued_ids es) ++ flat_map f (waiting es))) (sym (entered_more es e)) (trans _ (all_of es ++ q) _ moved (IsPermutation-append_left q (all_of es) (entered es) ih)))

on_issued : (setup : Setup) (es : List Happened) (i t : ℕ) → IsLegalTrace setup es → BreaksNoRule setup es (Issue i t) → IsPermutation (all_of es) (entered es) → IsPermutation (all_of (es ++ Issue i t ∷ [])) (entered (es ++ Issue i t ∷ []))
unfolding waiting released_ids issued_ids
on_issued setup es i t old all ih =
    let e : Happened = Issue i t in
    let fs : List Happened = es ++ e ∷ [] in
    let f : ℕ → List Bio = request_of fs in
    let g : ℕ → List Bio = request_of es in
    let released : released_ids fs ≡ released_ids es = released_more es (e ∷ []) ∙ append-nil _ in
    let issued : issued_ids fs ≡ issued_ids es ++ i ∷ [] = issued_more es e refl in
    let p : ℕ → Bool = λ id. not (has_id (issued_ids es) id) in
    let r : ℕ → Bool = λ id. not (has_id (issued_ids fs) id) in
    let there : IsReleased es i = all Unknown in
    let once : count_by (λ y. i == y) (released_ids es) ≡ 1 = released_one setup es i old (released_has es there.0 i there.1.0 there.1.1) in
    let passes : p i ≡ true = not_from_false _ (all_back es i (all AlreadyIssued)) in
    let now : has_id (issued_ids fs) i ≡ true = has_issued_more es e i refl ∙ or_right (has_id (issued_ids es) i) ((i == i) || false) (or_left (i == i) false (eq-eqb i i refl)) in
    let fails : r i ≡ false = ap not now in
    let other : (x : ℕ) → (i == x) ≡ false → p x ≡ r x = λ x b. ap not (sym (has_issued_same es e x refl (rw b refl))) in
    let fewer : IsPermutation (g i ++ flat_map g (filter r (released_ids es))) (flat_map g (waiting es)) = filter_once g p r i (released_ids es) other passes fails once in
    let request : (x : ℕ) → f x ≡ g x = λ x. (same_entered setup es e x refl).request in
    let waits : waiting fs ≡ filter r (released_ids es) = ap (filter r) released in
    let first : flat_map f (issued_ids es ++ i ∷ []) ≡ flat_map g (issued_ids es) ++ g i = flat_map-append f (issued_ids es) (i ∷ []) ∙ ap (λ l. l ++ (f i ++ [])) (parts_same f g (issued_ids es) (λ x _. request x)) ∙ ap (λ l. flat_map g (issued_ids es) ++ l) (append-nil (f i) ∙ request i) in
    let second : flat_map f (filter r (released_ids es)) ≡ flat_map g (filter r (released_ids es)) = parts_same f g (filter r (released_ids es)) (λ x _. request x) in
    let is : all_of fs ≡ flat_map g (issued_ids es) ++ (g i ++ flat_map g (filter r (released_ids es))) =
    ap (λ l. flat_map f l ++ flat_map f (waiting fs)) issued ∙ ap (λ l. flat_map f (issued_ids es ++ i ∷ []) ++ flat_map f l) waits ∙ ap (λ l. l ++ flat_map f (filter r (released_ids es))) first ∙ ap (λ l. (flat_map g (issued_ids es) ++ g i) ++ l) second ∙ append_assoc (flat_map g (issued_ids es)) (g i) (flat_map g (filter r (released_ids es))) in
    let enters : entered fs ≡ entered es = entered_more es e ∙ append-nil _ in
    subst (λ l. IsPermutation l (entered fs)) (sym is) (subst (IsPermutation (flat_map g (issued_ids es) ++ (g i ++ flat_map g (filter r (released_ids es))))) (sym enters)
    (trans _ (all_of es) _ (IsPermutation-append_right (flat_map g (issued_ids es)) (g i ++ flat_map g (filter r (released_ids es))) (flat_map g (waiting es)) fewer) ih))

-- a Back moves the request of its tag from those that are issued to those that wait
moved : (f : ℕ → List Bio) (i : ℕ) (xs ys : List ℕ) (ws vs : List ℕ) → IsPermutation (f i ++ flat_map f ws) (flat_map f vs) → IsPermutation (flat_map f (xs ++ ys) ++ flat_map f vs) (flat_map f (xs ++ i ∷ ys) ++ flat_map f ws)
moved f i xs ys ws vs h =
    let left : flat_map f (xs ++ ys) ≡ flat_map f xs ++ flat_map f ys = flat_map-append f xs ys in
    let right : flat_map f (xs ++ i ∷ ys) ≡ flat_map f xs ++ (f i ++ flat_map f ys) = flat_map-append f xs (i ∷ ys) in
    let swap : IsPermutation (flat_map f ys ++ (f i ++ flat_map f ws)) ((f i ++ flat_map f ys) ++ flat_map f ws) =
    trans _ ((flat_map f ys ++ f i) ++ flat_map f ws) _ (same _ _ (sym (append_assoc (flat_map f ys) (f i) (flat_map f ws))))
    (IsPermutation-append_left (flat_map f ws) (flat_map f ys ++ f i) (f i ++ flat_map f ys) (IsPermutation-append_comm (flat_map f ys) (f i))) in
    let back : IsPermutation (flat_map f vs) (f i ++ flat_map f ws) = turned _ _ h in
    rw (left, right)
    (trans ((flat_map f xs ++ flat_map f ys) ++ flat_map f vs) ((flat_map f xs ++ flat_map f ys) ++ (f i ++ flat_map f ws)) ((flat_map f xs ++ (f i ++ flat_map f ys)) ++ flat_map f ws)
    (IsPermutation-append_right (flat_map f xs ++ flat_map f ys) (flat_map f vs) (f i ++ flat_map f ws) back)
    (trans _ (flat_map f xs ++ (flat_map f ys ++ (f i ++ flat_map f ws))) _ (same _ _ (append_assoc (flat_map f xs) (flat_map f ys) (f i ++ flat_map f ws)))
    (trans _ (flat_map f xs ++ ((f i ++ flat_map f ys) ++ flat_map f ws)) _ (IsPermutation-append_right (flat_map f xs) (flat_map f ys ++ (f i ++ flat_map f ws)) ((f i ++ flat_map f ys) ++ flat_map f ws) swap) (same _ _ (sym (append_assoc (flat_map f xs) (f i ++ flat_map f ys) (flat_map f ws)))))))

on_requeued : (setup : Setup) (es : List Happened) (t : ℕ) → IsLegalTrace setup es → BreaksNoRule setup es (Back t) → IsPermutation (all_of es) (entered es) → IsPermutation (all_of (es ++ Back t ∷ [])) (entered (es ++ Back t ∷ []))
unfolding waiting released_ids
on_requeued setup es t old all ih =
    let e : Happened = Back t in
    let fs : List Happened = es ++ e ∷ [] in
    let o : IsOpen es t = all NotIssued in
    let by : IsOpenBy es t o.id = open_by es t o in
    let back : LosesIssue es fs o.id = requeued setup es t o.id old by in
    let out : IsOut (issued_ids es) (issued_ids fs) o.id = requeued_ids setup es t o.id old by in
    let f : ℕ → List Bio = request_of fs in
    let g : ℕ → List Bio = request_of es in
    let p : ℕ → Bool = λ id. not (has_id (issued_ids fs) id) in
    let r : ℕ → Bool = λ id. not (has_id (issued_ids es) id) in
    let released : released_ids fs ≡ released_ids es = released_more es (e ∷ []) ∙ append-nil _ in
    let there : IsReleased es o.id = released_first setup es o.id old (open_issued es t o.id by) in
    let once : count_by (λ y. o.id == y) (released_ids es) ≡ 1 = released_one setup es o.id old (released_has es there.0 o.id there.1.0 there.1.1) in
    let passes : p o.id ≡ true = not_from_false _ out.gone in
    let fails : r o.id ≡ false = ap not out.was in
    let other : (x : ℕ) → (o.id == x) ≡ false → p x ≡ r x = λ x b. ap not (out.other x b) in
    let more : IsPermutation (g o.id ++ flat_map g (waiting es)) (flat_map g (filter p (released_ids es))) = filter_once g p r o.id (released_ids es) other passes fails once in
    let request : (x : ℕ) → f x ≡ g x = λ x. (same_entered setup es e x refl).request in
    let waits : waiting fs ≡ filter p (released_ids es) = ap (filter p) released in
    let first : flat_map f (issued_ids fs) ≡ flat_map g (back.ids_before ++ back.ids_after) = parts_same f g (issued_ids fs) (λ x _. request x) ∙ ap (flat_map g) back.ids_are in
    let second : flat_map f (waiting fs) ≡ flat_map g (filter p (released_ids es)) = parts_same f g (waiting fs) (λ x _. request x) ∙ ap (flat_map g) waits in
    let is : all_of fs ≡ flat_map g (back.ids_before ++ back.ids_after) ++ flat_map g (filter p (released_ids es)) = ap (λ l. l ++ flat_map f (waiting fs)) first ∙ ap (λ l. flat_map g (back.ids_before ++ back.ids_after) ++ l) second in
    let was : flat_map g (back.ids_before ++ o.id ∷ back.ids_after) ++ flat_map g (waiting es) ≡ all_of es = ap (λ l. flat_map g l ++ flat_map g (waiting es)) (sym back.ids_were) in
    let enters : entered fs ≡ entered es = entered_more es e ∙ append-nil _ in
    subst (λ l. IsPermutation l (entered fs)) (sym is) (subst (IsPermutation (flat_map g (back.ids_before ++ back.ids_after) ++ flat_map g (filter p (released_ids es)))) (sym enters)
    (trans _ (all_of es) _ (subst (IsPermutation (flat_map g (back.ids_before ++ back.ids_after) ++ flat_map g (filter p (released_ids es)))) was (moved g o.id back.ids_before back.ids_after (waiting es) (filter p (released_ids es)) more)) ih))

account_step : (setup : Setup) (es : List Happened) (e : Happened) → IsLegalTrace setup es → BreaksNoRule setup es e → IsPermutation (all_of es) (entered es) → IsPermutation (all_of (es ++ e ∷ [])) (entered (es ++ e ∷ []))
unfolding released_ids issued_ids
account_step setup es (Release i q) old all ih = on_released setup es i q old all ih
account_step setup es (Join i q) old all ih = on_joined setup es i q old all ih
account_step setup es (Issue i t) old all ih = on_issued setup es i t old all ih
account_step setup es (Back t) old all ih = on_requeued setup es t old all ih
account_step setup es e old all ih = quiet setup es e refl refl refl refl (λ x. (same_entered setup es e x refl).request) ih

accounts : (setup : Setup) (es : List Happened) → IsLegalTrace setup es → IsPermutation (all_of es) (entered es)
unfolding waiting released_ids issued_ids served issues_from entered
accounts setup es legal = by_legal setup (λ l. IsPermutation (all_of l) (entered l)) (IsPermutation-refl []) (λ l e new old all ih. account_step setup l e old all ih) es legal

pub accounted : (setup : Setup) (events : List Happened) → IsLegalTrace setup events → IsAccounted events
unfolding waiting_of waiting_ids waiting
accounted setup events legal =
    trans _ (all_of events) _ (IsPermutation-append_right (flat_map (request_of events) (issued_ids events)) (waiting_of events) (flat_map (request_of events) (waiting events)) (rising_parts (request_of events) (waiting events))) (accounts setup events legal)
