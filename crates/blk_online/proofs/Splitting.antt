-- What went out before a Tick, and what after it.
use Rattle.std.proofs.Common.{◌≡◌, ◌<◌, ◌≤◌, ◌+◌, ◌++◌, ◌==◌, ℕ, zero, suc, List, [], ◌∷◌, length, get_or, take, drop, refl, sym, ◌∙◌, ap, subst, arith, cond, true, false, inl, inr, Some, None, eq-eqb, eqb-true}
use Rattle.std.specs.Prelude.{Option, slice_get, option_map, ◌⊎◌}
use Rattle.std.specs.Option.{option_map_or}
use Rattle.std.specs.List.{cons_option}
use Rattle.std.proofs.lemmas.List.{take-append-le, take_all}
use Rattle.std.proofs.lemmas.Bool.{cases_Bool}
use Rattle.std.proofs.lemmas.Option.{slice_get_within, slice_get-get_or}
use Rattle.blk_trace.specs.Happened.{Happened}
use Rattle.blk_trace.specs.declared.event.Event.TheVariants.{Tick, Issue}
use Rattle.blk_trace.specs.Kinds.{issues, ends, is_done_of}
use Rattle.blk_trace.specs.Setups.{Setup}
use Rattle.blk_trace.specs.Events.{At, EndsAt, IsOpen, is_tick, round_of}
use Rattle.blk_trace.specs.Legal.{IsLegalTrace}
use Rattle.blk_trace.specs.declared.issued.Outcome.{Outcome}
use Rattle.blk_trace.specs.declared.issued.Issued.{Issued}
use Rattle.blk_trace.specs.Issues.{end_of, outcome_of, issue_in, issues_from}
use Rattle.blk_trace.specs.Meaning.{served}
use Rattle.blk_trace.proofs.More.{round_cons}
use Rattle.blk_trace.proofs.Words.{done_by}
use Rattle.blk_trace.proofs.Served.{kept_pairs, kept_append, served_between}

-- ---- a Tick and what stands about it

-- some Tick ends each round before the last
pub tick_at : (es : List Happened) (x : ℕ) → x < round_of es → (t : ℕ) × At es t Tick × (round_of (take t es) ≡ x)
unfolding round_of
tick_at [] x h = absurd (omega arith)
tick_at (Tick ∷ es) zero h = (0, refl, refl)
tick_at (Tick ∷ es) (suc x) h =
    let r = tick_at es x (omega (arith, round_cons Tick es 0)) in
    (suc r.0, r.1, omega (arith, round_cons Tick (take r.0 es) 0, r.2))
tick_at (e ∷ es) x h =
    let r = tick_at es x (omega (arith, round_cons e es 0)) in
    (suc r.0, r.1, omega (arith, round_cons e (take r.0 es) 0, r.2))

-- a list about one of its elements
pub split_at : {X : Type 0} (xs : List X) (t : ℕ) (y : X) → slice_get xs t ≡ Some y → xs ≡ take t xs ++ y ∷ drop (suc t) xs
split_at [] t y h = absurd (cc)
split_at (x ∷ xs) zero y h = let same : x ≡ y = cc in ap (λ z. z ∷ xs) same
split_at (x ∷ xs) (suc t) y h = ap (λ l. x ∷ l) (split_at xs t y h)

at_length : {X : Type 0} (xs : List X) (y : X) (ys : List X) → slice_get (xs ++ y ∷ ys) (length xs) ≡ Some y
at_length [] y ys = refl
at_length (x ∷ xs) y ys = at_length xs y ys

take_first : {X : Type 0} (xs ys : List X) → take (length xs) (xs ++ ys) ≡ xs
take_first xs ys = take-append-le (length xs) xs ys (omega arith) ∙ take_all (length xs) xs (omega arith)

-- ---- each Issue before a Tick has ended before it

by_done : (tag : ℕ) (o : Option ℕ) → option_map_or (λ t. t == tag) o false ≡ true → o ≡ Some tag
by_done tag None h = absurd (cc)
by_done tag (Some t) h = ap (λ n. Some n) (eqb-true t tag h)

find_end : (tag k : ℕ) (es : List Happened) → ((j : ℕ) × EndsAt (drop k es) j tag) ⊎ ((j : ℕ) → k ≤ j → EndsAt es j tag → ⊥)
find_end tag zero [] = inr (λ j le d. let e : None ≡ Some d.0 = d.1 in cc)
find_end tag zero (e ∷ es) =
    elim (cases_Bool (is_done_of tag e)) [
      | inl t ↦ inl (0, (e, refl, by_done tag (ends e) t))
      | inr f ↦
          elim (find_end tag zero es) [
            | inl p ↦ inl (suc p.0, (p.1.0, p.1.1, p.1.2))
            | inr none ↦ inr (λ j. elim j as (λ (i : ℕ). 0 ≤ i → EndsAt (e ∷ es) i tag → ⊥) [
              | zero ↦ λ le d.
                  let same : e ≡ d.0 = let s : Some e ≡ Some d.0 = d.1 in cc in
                  let yes : is_done_of tag e ≡ true = done_by tag e tag (ap ends same ∙ d.2) ∙ eq-eqb tag tag refl in
                  let clash : true ≡ false = sym yes ∙ f in cc
              | suc i ↦ λ le d. none i (omega arith) (d.0, d.1, d.2)
            ])
          ]
    ]
find_end tag (suc k) [] = inr (λ j le d. let e : None ≡ Some d.0 = d.1 in cc)
find_end tag (suc k) (e ∷ es) =
    elim (find_end tag k es) [
      | inl p ↦ inl p
      | inr none ↦ inr (λ j. elim j as (λ (i : ℕ). suc k ≤ i → EndsAt (e ∷ es) i tag → ⊥) [
        | zero ↦ λ le d. absurd (omega arith)
        | suc i ↦ λ le d. none i (omega arith) (d.0, d.1, d.2)
      ])
    ]

-- each Issue has its end after it
abbrev pub AreEnded : List Happened → Type 0
AreEnded es = (k id tag : ℕ) → At es k (Issue id tag) → (j : ℕ) × EndsAt (drop (suc k) es) j tag

pub ended_before : (setup : Setup) (before after : List Happened) → IsLegalTrace setup (before ++ Tick ∷ after) → AreEnded before
ended_before setup before after legal k id tag at =
    elim (find_end tag (suc k) before) [
      | inl p ↦ p
      | inr none ↦ absurd (
          let is : take (length before) (before ++ Tick ∷ after) ≡ before = take_first before (Tick ∷ after) in
          let still : IsOpen before tag = record { place = k; id = id; issued = at; not_done = λ j lt d. none j (omega arith) d } in
          legal.tick_closed (length before) tag (at_length before Tick after) (subst (λ l. IsOpen l tag) (sym is) still))
    ]

-- ---- the services before it are those of the events before it

outcome_kept : (tag : ℕ) (es fs : List Happened) (j : ℕ) → EndsAt es j tag → outcome_of tag (es ++ fs) ≡ outcome_of tag es
unfolding outcome_of
outcome_kept tag [] fs j d = absurd (let e : None ≡ Some d.0 = d.1 in cc)
outcome_kept tag (e ∷ es) fs j d =
    elim (is_done_of tag e) as (λ b. is_done_of tag e ≡ b → cond b (end_of e) (outcome_of tag (es ++ fs)) ≡ cond b (end_of e) (outcome_of tag es)) [
      | true ↦ λ _. refl
      | false ↦ λ no. (elim j as (λ (i : ℕ). EndsAt (e ∷ es) i tag → outcome_of tag (es ++ fs) ≡ outcome_of tag es) [
        | zero ↦ λ c.
            let same : e ≡ c.0 = let s : Some e ≡ Some c.0 = c.1 in cc in
            let yes_is : is_done_of tag e ≡ true = done_by tag e tag (ap ends same ∙ c.2) ∙ eq-eqb tag tag refl in
            absurd (let clash : true ≡ false = sym yes_is ∙ no in cc)
        | suc i ↦ λ c. outcome_kept tag es fs i (c.0, c.1, c.2)
      ]) d
    ] refl

issue_kept : (r : ℕ) (e : Happened) (es fs : List Happened) → ((id tag : ℕ) → e ≡ Issue id tag → (j : ℕ) × EndsAt es j tag) → option_map (issue_in r (es ++ fs)) (issues e) ≡ option_map (issue_in r es) (issues e)
issue_kept r (Issue id tag) es fs ended =
    let p = ended id tag refl in
    ap (λ (o : Outcome). let i : Issued = record { round = r; id = id; tag = tag; outcome = o } in Some i) (outcome_kept tag es fs p.0 p.1)
issue_kept r e es fs ended = refl

prepend : {X : Type 0} (o : Option X) (xs ys : List X) → cons_option o (xs ++ ys) ≡ cons_option o xs ++ ys
prepend None xs ys = refl
prepend (Some x) xs ys = refl

issues_split : (r : ℕ) (es fs : List Happened) → AreEnded es → issues_from r (es ++ fs) ≡ issues_from r es ++ issues_from (r + round_of es) fs
unfolding issues_from round_of
issues_split r [] fs ended = ap (λ n. issues_from n fs) (omega arith)
issues_split r (e ∷ es) fs ended =
    let next : ℕ = cond (is_tick e) (r + 1) r in
    ap (λ o. cons_option o (issues_from next (es ++ fs))) (issue_kept r e es fs (λ id tag is. ended 0 id tag (ap (λ x. Some x) is)))
    ∙ ap (cons_option (option_map (issue_in r es) (issues e))) (issues_split next es fs (λ k id tag at. ended (suc k) id tag at) ∙ ap (λ n. issues_from next es ++ issues_from n fs) (sym (round_cons e es r)))
    ∙ prepend (option_map (issue_in r es) (issues e)) (issues_from next es) (issues_from (r + round_of (e ∷ es)) fs)

pub served_split : (r : ℕ) (es fs : List Happened) → AreEnded es → served r (es ++ fs) ≡ served r es ++ served (r + round_of es) fs
unfolding served
served_split r es fs ended = ap kept_pairs (issues_split r es fs ended) ∙ kept_append (issues_from r es) (issues_from (r + round_of es) fs)

-- they lie in the rounds of the events
pub rounds_between : (r : ℕ) (es : List Happened) (k : ℕ) (s : ℕ × ℕ) → slice_get (served r es) k ≡ Some s → (r ≤ s.0) × (s.0 ≤ r + round_of es)
rounds_between r es k s h =
    let low : k < length (served r es) = slice_get_within (served r es) k s h in
    let here : get_or (served r es) k s ≡ s = let e : Some (get_or (served r es) k s) ≡ Some s = sym (slice_get-get_or (served r es) k s low) ∙ h in cc in
    subst (λ (t : ℕ × ℕ). (r ≤ t.0) × (t.0 ≤ r + round_of es)) here (served_between r es k s low)
