-- Replay answers a state exactly where the list is legal, and else the first rule that is broken.
use Rattle.std.proofs.Common.{◌≡◌, ◌<◌, ◌++◌, ◌∙◌, ◌∷◌, ◌↔◌, ◌⊎◌, ℕ, zero, suc, List, [], refl, sym, ap, subst, arith, inl, inr, cond, Bool, take, append_assoc, append-nil, IsTrue, MatchOption}
use Rattle.std.specs.Prelude.{not, find, Option, Some, None, Result, Ok, Err, IsOk}
use Rattle.std.specs.Option.{option_map_or}
use Rattle.std.proofs.lemmas.Bool.{cases_Bool, cases_order, both_ways}
use Rattle.blk_bio.specs.declared.rule.TraceRule.{TraceRule}
use Rattle.blk_bio.specs.declared.rule.TraceRule.TheVariants.{ReleasedTwice, Unknown, AlreadyIssued, BioTwice, Fit, TagRange, TagUsed, NotIssued, InFlight, TooLong, DepthRange}
use Rattle.blk_trace.specs.Happened.{Happened}
use Rattle.blk_trace.specs.Setups.{Setup}
use Rattle.blk_trace.specs.Events.{At}
use Rattle.blk_trace.specs.Legal.{IsLegalTrace}
use Rattle.blk_trace.specs.Rules.{Obeys, BreaksNoRule, IsFirstBroken, rank}
use Rattle.blk_trace.proofs.Reading.{refused_at, not_legal}
use Rattle.blk_trace_state.specs.State.{LayerState, start_state, next_state}
use Rattle.blk_trace_state.specs.Replay.{obeys, rules, first_broken, replay_from, replay}
use Rattle.blk_trace_state.specs.Laws.{AreRequests, IsFirstIllegal}
use Rattle.blk_trace_state.proofs.Standing.{Stands, told}
use Rattle.blk_trace_state.proofs.Stepping.{stands_start, stands_next}

-- ---- rules by rank

by_rank : ℕ → TraceRule
by_rank zero = ReleasedTwice
by_rank (suc zero) = ReleasedTwice
by_rank (suc (suc zero)) = Unknown
by_rank (suc (suc (suc zero))) = AlreadyIssued
by_rank (suc (suc (suc (suc zero)))) = BioTwice
by_rank (suc (suc (suc (suc (suc zero))))) = Fit
by_rank (suc (suc (suc (suc (suc (suc zero)))))) = TagRange
by_rank (suc (suc (suc (suc (suc (suc (suc zero))))))) = TagUsed
by_rank (suc (suc (suc (suc (suc (suc (suc (suc zero)))))))) = NotIssued
by_rank (suc (suc (suc (suc (suc (suc (suc (suc (suc zero))))))))) = InFlight
by_rank (suc (suc (suc (suc (suc (suc (suc (suc (suc (suc zero)))))))))) = TooLong
by_rank _ = DepthRange

ranked : (r : TraceRule) → by_rank (rank r) ≡ r
unfolding by_rank
ranked ReleasedTwice = refl
ranked Unknown = refl
ranked AlreadyIssued = refl
ranked BioTwice = refl
ranked Fit = refl
ranked TagRange = refl
ranked TagUsed = refl
ranked NotIssued = refl
ranked InFlight = refl
ranked TooLong = refl
ranked DepthRange = refl

same_rank : (q r : TraceRule) → rank q ≡ rank r → q ≡ r
same_rank q r h = sym (ranked q) ∙ ap by_rank h ∙ ranked r

rank_within : (r : TraceRule) → (0 < rank r) × (rank r < 12)
rank_within ReleasedTwice = (omega arith, omega arith)
rank_within Unknown = (omega arith, omega arith)
rank_within AlreadyIssued = (omega arith, omega arith)
rank_within BioTwice = (omega arith, omega arith)
rank_within Fit = (omega arith, omega arith)
rank_within TagRange = (omega arith, omega arith)
rank_within TagUsed = (omega arith, omega arith)
rank_within NotIssued = (omega arith, omega arith)
rank_within InFlight = (omega arith, omega arith)
rank_within TooLong = (omega arith, omega arith)
rank_within DepthRange = (omega arith, omega arith)

-- ---- the first rule that fails a test

-- all rules below the rank hold
abbrev HoldBelow : (TraceRule → Type 0) → ℕ → Type 0
HoldBelow P n = (q : TraceRule) → rank q < n → P q

hold_more : (P : TraceRule → Type 0) (r : TraceRule) → HoldBelow P (rank r) → P r → HoldBelow P (suc (rank r))
hold_more P r below here q l = by (cases_order (rank q) (rank r))
  where
    by : (rank q ≡ rank r) ⊎ ((rank q < rank r) ⊎ (rank r < rank q)) → P q
    by (inl h) = subst P (sym (same_rank q r h)) here
    by (inr (inl h)) = below q h
    by (inr (inr h)) = absurd (omega (arith, l, h))

-- these are the rules from the rank on
abbrev AreFrom : ℕ → List TraceRule → Type 0
AreFrom n [] = (q : TraceRule) → rank q < n
AreFrom n (r ∷ rs) = (rank r ≡ n) × AreFrom (suc n) rs

all_from : AreFrom 1 rules
all_from = (refl, (refl, (refl, (refl, (refl, (refl, (refl, (refl, (refl, (refl, (refl, λ q. (rank_within q).1)))))))))))

abbrev IsFirst : (TraceRule → Type 0) → Option TraceRule → Type 0
IsFirst P o = MatchOption o ((q : TraceRule) → P q) (λ r. (P r → ⊥) × HoldBelow P (rank r))

find_first : (P : TraceRule → Type 0) (t : TraceRule → Bool) → ((r : TraceRule) → HoldBelow P (rank r) → IsTrue (t r) ↔ P r) → (n : ℕ) (rs : List TraceRule) → AreFrom n rs → HoldBelow P n → IsFirst P (find (λ r. not (t r)) rs)
find_first P t is n [] from below = λ q. below q (from q)
find_first P t is n (r ∷ rs) from below =
    let lower : HoldBelow P (rank r) = subst (HoldBelow P) (sym from.0) below in
    elim (cases_Bool (t r)) [
      | inl y ↦
          let more : HoldBelow P (suc n) = subst (λ k. HoldBelow P (suc k)) from.0 (hold_more P r lower ((is r lower).0 y)) in
          subst (λ b. IsFirst P (cond (not b) (Some r) (find (λ r. not (t r)) rs))) (sym y) (find_first P t is (suc n) rs from.1 more)
      | inr f ↦ subst (λ b. IsFirst P (cond (not b) (Some r) (find (λ r. not (t r)) rs))) (sym f) ((λ p. both_ways (t r) f ((is r lower).1 p)), lower)
    ]

first_told : (setup : Setup) (es : List Happened) (s : LayerState) → Stands setup es s → (e : Happened) → IsFirst (Obeys setup es e) (first_broken setup s e)
unfolding first_broken
first_told setup es s st e = find_first (Obeys setup es e) (obeys setup s e) (told setup es s st e) 1 rules all_from (λ q l. absurd (omega (arith, l, (rank_within q).0)))

-- ---- one event after the other

-- what replay says of the whole list
abbrev pub IsTold : Setup → List Happened → Result LayerState (ℕ × TraceRule) → Type 0
IsTold setup events (Ok s) = Stands setup events s
IsTold setup events (Err fault) = IsFirstIllegal setup events fault.0 fault.1

run : (setup : Setup) (pre rest : List Happened) (s : LayerState) → Stands setup pre s → AreRequests rest → IsTold setup (pre ++ rest) (replay_from setup s rest)
unfolding replay_from
run setup pre [] s st each = let P : List Happened → Type 0 = λ l. Stands setup l s in subst P (sym (append-nil pre)) st
run setup pre (e ∷ rest) s st each =
    by (first_broken setup s e) (first_told setup pre s st e) (λ all.
    let P : List Happened → Type 0 = λ l. IsTold setup l (replay_from setup (next_state setup s e) rest) in
    subst P (append_assoc pre (e ∷ []) rest) (run setup (pre ++ e ∷ []) rest (next_state setup s e) (stands_next setup pre s st e all (each 0 e refl)) (λ k x at. each (suc k) x at)))
  where
    by : (o : Option TraceRule) → IsFirst (Obeys setup pre e) o → (BreaksNoRule setup pre e → IsTold setup (pre ++ e ∷ rest) (replay_from setup (next_state setup s e) rest)) → IsTold setup (pre ++ e ∷ rest) (option_map_or (λ r. Err (s.events, r)) o (replay_from setup (next_state setup s e) rest))
    by None all go = go all
    by (Some r) broken go = refused_at setup setup (pre ++ e ∷ rest) pre pre rest e s.events r refl refl st.legal refl st.events_are record { broken = broken.0; first = broken.1 }

pub replay_told : (setup : Setup) (events : List Happened) → AreRequests events → IsTold setup events (replay setup events)
unfolding replay
replay_told setup events each = run setup [] events (start_state setup) (stands_start setup) each

-- ---- what follows

split_at : (all : List Happened) (k : ℕ) (e : Happened) → At all k e → (rest : List Happened) × (all ≡ take k all ++ e ∷ rest)
split_at [] k e h = absurd (cc)
split_at (x ∷ all) zero e h = (all, let same : x ≡ e = cc in ap (λ y. y ∷ all) same)
split_at (x ∷ all) (suc k) e h = let p = split_at all k e h in (p.0, ap (λ l. x ∷ l) p.1)

-- the same in the events before a later place
split_before : (all : List Happened) (k n : ℕ) (e : Happened) → k < n → At all k e → (rest : List Happened) × (take n all ≡ take k all ++ e ∷ rest)
split_before [] k n e l h = absurd (cc)
split_before (x ∷ all) k zero e l h = absurd (omega arith)
split_before (x ∷ all) zero (suc n) e l h = (take n all, let same : x ≡ e = cc in ap (λ y. y ∷ take n all) same)
split_before (x ∷ all) (suc k) (suc n) e l h = let p = split_before all k n e (omega arith) h in (p.0, ap (λ l. x ∷ l) p.1)

pub not_both : (setup : Setup) (all : List Happened) (k : ℕ) (r : TraceRule) → IsFirstIllegal setup all k r → IsLegalTrace setup all → ⊥
not_both setup all k r f legal =
    let p = split_at all k f.1.0 f.1.1 in
    not_legal setup setup all (take k all) (take k all) p.0 f.1.0 r refl refl p.1 f.1.2 legal

not_later : (setup : Setup) (all : List Happened) (k n : ℕ) (r q : TraceRule) → IsFirstIllegal setup all k r → IsFirstIllegal setup all n q → k < n → ⊥
not_later setup all k n r q f g l =
    let p = split_before all k n f.1.0 l f.1.1 in
    not_legal setup setup (take n all) (take k all) (take k all) p.0 f.1.0 r refl refl p.1 f.1.2 g.0

one_rule : (setup : Setup) (es : List Happened) (e : Happened) (r q : TraceRule) → IsFirstBroken setup es e r → IsFirstBroken setup es e q → r ≡ q
one_rule setup es e r q f g = by (cases_order (rank r) (rank q))
  where
    by : (rank r ≡ rank q) ⊎ ((rank r < rank q) ⊎ (rank q < rank r)) → r ≡ q
    by (inl h) = same_rank r q h
    by (inr (inl h)) = absurd (f.broken (g.first r h))
    by (inr (inr h)) = absurd (g.broken (f.first q h))

same_place : (setup : Setup) (all : List Happened) (k : ℕ) (r q : TraceRule) → IsFirstIllegal setup all k r → IsFirstIllegal setup all k q → r ≡ q
same_place setup all k r q f g =
    let same : f.1.0 ≡ g.1.0 = let a = f.1.1 in let b = g.1.1 in cc in
    one_rule setup (take k all) g.1.0 r q (subst (λ x. IsFirstBroken setup (take k all) x r) same f.1.2) g.1.2

one_fault : (setup : Setup) (all : List Happened) (k n : ℕ) (r q : TraceRule) → IsFirstIllegal setup all k r → IsFirstIllegal setup all n q → ◌≡◌ {A = ℕ × TraceRule} (k, r) (n, q)
one_fault setup all k n r q f g = by (cases_order k n)
  where
    by : (k ≡ n) ⊎ ((k < n) ⊎ (n < k)) → ◌≡◌ {A = ℕ × TraceRule} (k, r) (n, q)
    by (inl h) = let rules_are : r ≡ q = same_place setup all n r q (subst (λ x. IsFirstIllegal setup all x r) h f) g in cc
    by (inr (inl h)) = absurd (not_later setup all k n r q f g h)
    by (inr (inr h)) = absurd (not_later setup all n k q r g f h)

answers_ok : (setup : Setup) (all : List Happened) (o : Result LayerState (ℕ × TraceRule)) → IsTold setup all o → IsLegalTrace setup all → IsOk o
answers_ok setup all (Ok s) is legal = refl
answers_ok setup all (Err f) is legal = absurd (not_both setup all f.0 f.1 is legal)

ok_legal : (setup : Setup) (all : List Happened) (o : Result LayerState (ℕ × TraceRule)) → IsTold setup all o → IsOk o → IsLegalTrace setup all
ok_legal setup all (Ok s) is h = is.legal
ok_legal setup all (Err f) is h = absurd (cc)

pub legal_where : (setup : Setup) (events : List Happened) → IsLegalTrace setup events ↔ (AreRequests events × IsOk (replay setup events))
legal_where setup events = (
  λ legal. (legal.are_requests, answers_ok setup events (replay setup events) (replay_told setup events legal.are_requests) legal),
  λ p. ok_legal setup events (replay setup events) (replay_told setup events p.0) p.1,
)

answers_fault : (setup : Setup) (all : List Happened) (k : ℕ) (r : TraceRule) (o : Result LayerState (ℕ × TraceRule)) → IsTold setup all o → IsFirstIllegal setup all k r → o ≡ Err (k, r)
answers_fault setup all k r (Ok s) is f = absurd (not_both setup all k r f is.legal)
answers_fault setup all k r (Err g) is f = ap (λ (x : ℕ × TraceRule). Err x) (one_fault setup all g.0 k g.1 r is f)

pub fault_where : (setup : Setup) (events : List Happened) (k : ℕ) (r : TraceRule) → AreRequests events → (replay setup events ≡ Err (k, r)) ↔ IsFirstIllegal setup events k r
fault_where setup events k r each = (
  λ h. subst (IsTold setup events) h (replay_told setup events each),
  answers_fault setup events k r (replay setup events) (replay_told setup events each),
)

-- ---- one event more

broken_by : (setup : Setup) (es : List Happened) (e : Happened) (r : TraceRule) (o : Option TraceRule) → IsFirst (Obeys setup es e) o → (o ≡ Some r) ↔ IsFirstBroken setup es e r
broken_by setup es e r None is = (λ h. absurd (cc), λ b. absurd (b.broken (is r)))
broken_by setup es e r (Some q) is =
    let here : IsFirstBroken setup es e q = record { broken = is.0; first = is.1 } in
    (λ h. subst (IsFirstBroken setup es e) (let same : q ≡ r = cc in same) here, λ b. ap Some (one_rule setup es e q r here b))

pub broken_where : (setup : Setup) (es : List Happened) (s : LayerState) → Stands setup es s → (e : Happened) (r : TraceRule) → (first_broken setup s e ≡ Some r) ↔ IsFirstBroken setup es e r
broken_where setup es s st e r = broken_by setup es e r (first_broken setup s e) (first_told setup es s st e)

unbroken_by : (setup : Setup) (es : List Happened) (e : Happened) (o : Option TraceRule) → IsFirst (Obeys setup es e) o → (o ≡ None) ↔ BreaksNoRule setup es e
unbroken_by setup es e None is = (λ _. is, λ _. refl)
unbroken_by setup es e (Some q) is = (λ h. absurd (cc), λ all. absurd (is.0 (all q)))

pub unbroken_where : (setup : Setup) (es : List Happened) (s : LayerState) → Stands setup es s → (e : Happened) → (first_broken setup s e ≡ None) ↔ BreaksNoRule setup es e
unbroken_where setup es s st e = unbroken_by setup es e (first_broken setup s e) (first_told setup es s st e)

more_from : (setup : Setup) (start s : LayerState) (es : List Happened) (e : Happened) → replay_from setup start es ≡ Ok s → first_broken setup s e ≡ None → replay_from setup start (es ++ e ∷ []) ≡ Ok (next_state setup s e)
unfolding replay_from
more_from setup start s [] e is none =
    let same : start ≡ s = cc in
    let P : LayerState → Type 0 = λ x. option_map_or {U = Result LayerState (ℕ × TraceRule)} (λ r. Err (x.events, r)) (first_broken setup x e) (Ok (next_state setup x e)) ≡ Ok (next_state setup s e) in
    let here : P s = ap (λ o. option_map_or {U = Result LayerState (ℕ × TraceRule)} (λ r. Err (s.events, r)) o (Ok (next_state setup s e))) none in
    subst P (sym same) here
more_from setup start s (x ∷ es) e is none = by (first_broken setup start x) is (λ h. more_from setup (next_state setup start x) s es e h none)
  where
    by : (o : Option TraceRule) → option_map_or (λ r. Err (start.events, r)) o (replay_from setup (next_state setup start x) es) ≡ Ok s → (replay_from setup (next_state setup start x) es ≡ Ok s → replay_from setup (next_state setup start x) (es ++ e ∷ []) ≡ Ok (next_state setup s e)) → option_map_or (λ r. Err (start.events, r)) o (replay_from setup (next_state setup start x) (es ++ e ∷ [])) ≡ Ok (next_state setup s e)
    by None h go = go h
    by (Some r) h go = absurd (cc)

pub replay_more : (setup : Setup) (es : List Happened) (s : LayerState) (e : Happened) → replay setup es ≡ Ok s → first_broken setup s e ≡ None → replay setup (es ++ e ∷ []) ≡ Ok (next_state setup s e)
unfolding replay
replay_more setup es s e is none = more_from setup (start_state setup) s es e is none
