-- How many bios enter, and how many of them wait.
use Rattle.std.proofs.Common.{◌≡◌, ◌<◌, ◌≤◌, ◌+◌, ◌++◌, ◌==◌, ℕ, List, [], ◌∷◌, length, get_or, take, drop, refl, sym, ◌∙◌, ap, subst, arith, inl, inr, cond, Bool, true, false, ne_eqb, eq-eqb, length-append}
use Rattle.std.specs.Prelude.{count_by, filter, not, IsPermutation}
use Rattle.std.specs.List.{flat_map}
use Rattle.std.proofs.lemmas.Bool.{cases_Bool, or_left}
use Rattle.std.proofs.lemmas.List.{take-append-drop}
use Rattle.std.proofs.lemmas.List.Folds.{list_any-append}
use Rattle.std.proofs.lemmas.List.Sorted.{length_permutation}
use Rattle.blk_bio.specs.Bios.{Bio}
use Rattle.blk_bio.specs.Limits.{IsLimits}
use Rattle.blk_bio.specs.declared.limits.TheConstants.{MAX_SEGMENTS}
use Rattle.blk_bio.specs.declared.request.Side.{Side}
use Rattle.blk_bio.specs.declared.request.Side.TheVariants.{Back, Front}
use Rattle.blk_bio.specs.Requests.{joined, IsWithin}
use Rattle.blk_bio.specs.declared.rule.TraceRule.TheVariants.{Fit}
use Rattle.blk_trace.specs.Happened.{Happened, Release, Join}
use Rattle.blk_trace.specs.Setups.{Setup}
use Rattle.blk_trace.specs.Events.{join_up, request_of, bios_of}
use Rattle.blk_trace.specs.Legal.{IsLegalTrace}
use Rattle.blk_trace.specs.Rules.{BreaksNoRule}
use Rattle.blk_trace.specs.Meaning.{issued_ids, released_ids, waiting_ids, waiting_of}
use Rattle.blk_trace.specs.Waits.{has_id}
use Rattle.blk_trace.specs.Inside.Gathered.{enters_to_stay}
use Rattle.blk_trace.proofs.Pushing.{obeys}
use Rattle.blk_trace.proofs.More.{released_more}
use Rattle.blk_trace.proofs.Entering.{enters_as, same_entered, entered_released, entered_joined}
use Rattle.blk_trace.proofs.Counting.{one_if, count-cons, released_one}
use Rattle.blk_trace.proofs.Accounting.{waiting, parts_same, parts_once, parts_without, joined_all, keeps_id, rising_parts}
use Rattle.blk_trace.proofs.Gathering.{released_now, one_more}

-- no event enters more bios than a request may have
few_within : (setup : Setup) (bios : List Bio) → IsLimits setup.limits → IsWithin setup.limits bios → length bios ≤ MAX_SEGMENTS
few_within setup bios limits (inl one) = omega arith
few_within setup bios limits (inr both) = omega (arith, both.1, limits.few_segments)

few_joined : (bios newcomer : List Bio) (side : Side) → length newcomer ≤ length (joined bios newcomer side)
few_joined bios newcomer Back = omega (arith, length-append bios newcomer)
few_joined bios newcomer Front = omega (arith, length-append newcomer bios)

few : (setup : Setup) (es : List Happened) (e : Happened) → IsLimits setup.limits → BreaksNoRule setup es e → length (bios_of e) ≤ MAX_SEGMENTS
few setup es (Release i q) limits all = few_within setup q limits (all Fit)
few setup es (Join i q) limits all =
    let fit = all Fit in
    omega (arith, few_joined (request_of es i) q fit.0, few_within setup (joined (request_of es i) q fit.0) limits fit.1.within)
few setup es e limits all = omega arith

pub few_more : (setup : Setup) (es : List Happened) (i : ℕ) (e : Happened) → IsLimits setup.limits → IsLegalTrace setup es → i < length es → e ≡ get_or es i e → length (bios_of e) ≤ MAX_SEGMENTS
few_more setup es i e limits legal low is = let p = one_more setup es i e low is legal in few setup (take i es) e limits (obeys setup (take i es) e p.1)

-- how often an id waits
drops_id : (p : ℕ → Bool) (u : ℕ) (xs : List ℕ) → p u ≡ false → count_by (λ y. u == y) (filter p xs) ≡ 0
drops_id p u [] h = refl
drops_id p u (x ∷ xs) h =
    elim (cases_Bool (p x)) [
      | inl b ↦
          let other : (u == x) ≡ false = ne_eqb u x (λ e. let f : p x ≡ false = subst (λ y. p y ≡ false) e h in absurd (cc)) in
          let none : one_if (u == x) ≡ 0 = ap one_if other in
          rw b (omega (arith, count-cons (λ y. u == y) x (filter p xs), drops_id p u xs h))
      | inr b ↦ rw b (drops_id p u xs h)
    ]

waits_times : (setup : Setup) (es : List Happened) (i : ℕ) → IsLegalTrace setup es → has_id (released_ids es) i ≡ true → count_by (λ y. i == y) (waiting es) ≡ one_if (not (has_id (issued_ids es) i))
unfolding waiting
waits_times setup es i legal there =
    let p : ℕ → Bool = λ id. not (has_id (issued_ids es) id) in
    elim (cases_Bool (p i)) [
      | inl b ↦ keeps_id p i (released_ids es) b ∙ released_one setup es i legal there ∙ sym (ap one_if b)
      | inr b ↦ drops_id p i (released_ids es) b ∙ sym (ap one_if b)
    ]

-- the bios of ids of which one gets more
longer : (f g : ℕ → List Bio) (i : ℕ) (q : List Bio) (b : Bool) (xs : List ℕ) → ((x : ℕ) → (i == x) ≡ false → f x ≡ g x) → f i ≡ join_up (g i) q → count_by (λ y. i == y) xs ≡ one_if b → length (flat_map f xs) ≡ length (flat_map g xs) + cond b (length q) 0
longer f g i q true xs other here once =
    let p : IsPermutation (flat_map f xs) (flat_map g xs ++ q) = parts_once f g i q xs other (subst (λ l. IsPermutation l (g i ++ q)) (sym here) (joined_all (g i) q)) once in
    omega (arith, length_permutation (flat_map f xs) (flat_map g xs ++ q) p, length-append (flat_map g xs) q)
longer f g i q false xs other here none = omega (arith, ap length (parts_without f g i xs other none))

by_event : (setup : Setup) (all es : List Happened) (e : Happened) → IsLegalTrace setup all → ((id : ℕ) → enters_as id e ≡ true → has_id (released_ids all) id ≡ true)
    → length (flat_map (request_of (es ++ e ∷ [])) (waiting all)) ≡ length (flat_map (request_of es) (waiting all)) + cond (enters_to_stay (λ id. has_id (issued_ids all) id) e) (length (bios_of e)) 0
by_event setup all es (Release i q) legal there =
    longer _ _ i q (not (has_id (issued_ids all) i)) (waiting all) (λ x b. (same_entered setup es (Release i q) x b).request) (entered_released setup es i i q (eq-eqb i i refl)).request (waits_times setup all i legal (there i (eq-eqb i i refl)))
by_event setup all es (Join i q) legal there =
    longer _ _ i q (not (has_id (issued_ids all) i)) (waiting all) (λ x b. (same_entered setup es (Join i q) x b).request) (entered_joined setup es i i q (eq-eqb i i refl)).request (waits_times setup all i legal (there i (eq-eqb i i refl)))
by_event setup all es e legal there = omega (arith, ap length (parts_same (request_of (es ++ e ∷ [])) (request_of es) (waiting all) (λ x h. (same_entered setup es e x refl).request)))

-- the bios that wait in the end, by the events up to a place and the one there
pub wait_more : (setup : Setup) (es : List Happened) (i : ℕ) (e : Happened) → IsLegalTrace setup es → i < length es → e ≡ get_or es i e
    → length (flat_map (request_of (take (i + 1) es)) (waiting es)) ≡ length (flat_map (request_of (take i es)) (waiting es)) + cond (enters_to_stay (λ id. has_id (issued_ids es) id) e) (length (bios_of e)) 0
wait_more setup es i e legal low is =
    let p = one_more setup es i e low is legal in
    let whole : es ≡ (take i es ++ e ∷ []) ++ drop (i + 1) es = sym (take-append-drop (i + 1) es) ∙ ap (λ l. l ++ drop (i + 1) es) p.0 in
    ap (λ l. length (flat_map (request_of l) (waiting es))) p.0
    ∙ by_event setup es (take i es) e legal (λ id h.
    ap (λ l. has_id (released_ids l) id) whole
    ∙ ap (λ l. has_id l id) (released_more (take i es ++ e ∷ []) (drop (i + 1) es))
    ∙ list_any-append (λ j. j == id) (released_ids (take i es ++ e ∷ [])) (released_ids (drop (i + 1) es))
    ∙ or_left _ _ (released_now setup (take i es) e id (obeys setup (take i es) e p.1) h))

pub none_waits : (xs : List ℕ) → length (flat_map (request_of []) xs) ≡ 0
unfolding request_of
none_waits [] = refl
none_waits (x ∷ xs) = none_waits xs

pub all_wait : (es : List Happened) → length (flat_map (request_of es) (waiting es)) ≡ length (waiting_of es)
unfolding waiting_of waiting_ids waiting
all_wait es = length_permutation (waiting_of es) (flat_map (request_of es) (waiting es)) (rising_parts (request_of es) (waiting es))
