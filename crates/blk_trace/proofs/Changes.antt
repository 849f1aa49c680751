-- The steps of a trace's capacity.
use Rattle.std.proofs.Common.{◌≡◌, ◌≢◌, ◌≤◌, ◌<◌, ◌+◌, ◌-◌, ◌++◌, ◌==◌, ℕ, zero, suc, List, [], ◌∷◌, length, get_or, set, refl, sym, ◌∙◌, ap, subst, arith, cond, nat_le, inl, inr, Bool, true, false, Some, None, eqb-true, append-nil}
use Rattle.std.specs.Prelude.{⊤, is_some, option_map}
use Rattle.std.specs.List.{filter_map, cons_option, list_any}
use Rattle.std.proofs.lemmas.Bool.{cases_Bool, eqb-false}
use Rattle.edd_commands.specs.declared.steps.Step.{Step}
use Rattle.edd_commands.specs.declared.steps.CapacityFault.{CapacityFault}
use Rattle.edd_commands.specs.declared.steps.CapacityFault.TheVariants.{Start, Rising, Depth, Round}
use Rattle.edd_commands.specs.declared.steps.TheConstants.{MAX_DEPTH}
use Rattle.edd_commands.specs.declared.TheConstants.{MAX_ROUNDS}
use Rattle.edd_commands.specs.Capacity.{depth_after, depth_at, fixed, IsStepAt, IsCapacity, IsFault}
use Rattle.blk_trace.specs.Happened.{Happened, Tick, Depth as DepthSet}
use Rattle.blk_trace.specs.Kinds.{sets_depth, is_tick}
use Rattle.blk_trace.specs.Setups.{Setup, IsSetup}
use Rattle.blk_trace.specs.Events.{At, round_of}
use Rattle.blk_trace.specs.Meaning.{timed}
use Rattle.blk_trace.specs.Depths.{step_after, change, changes_of, depth_in, begins_at, last_of_each, capacity_of, IsFixed}
use Rattle.blk_trace.specs.Legal.{IsLegalTrace}
use Rattle.blk_trace.specs.Inside.Changing.{with_change}
use Rattle.blk_trace.proofs.More.{round_more, round_cons, rounds_within}
use Rattle.blk_trace.proofs.Depths.{changes_more}
use Rattle.blk_trace.proofs.Words.{tick_is, depth_is}

-- of two changes in one round the first has no effect
after_both : (a b : Bool) (m n d : ℕ) → a ≡ b → cond a m (cond b d n) ≡ cond a m n
after_both true true m n d h = refl
after_both false false m n d h = refl
after_both true false m n d h = refl
after_both false true m n d h = absurd (cc)

first_hidden : (n f d x : ℕ) (steps : List Step) → begins_at steps f ≡ true → depth_after (cond (nat_le f x) d n) steps x ≡ depth_after n steps x
first_hidden n f d x [] h = absurd (cc)
first_hidden n f d x (t ∷ steps) h =
    let same : nat_le t.from x ≡ nat_le f x = ap (λ (y : ℕ). nat_le y x) (eqb-true t.from f h) in
    ap (λ m. depth_after m steps x) (after_both (nat_le t.from x) (nat_le f x) t.depth n d same)

last_same : (n : ℕ) (steps : List Step) (x : ℕ) → depth_after n (last_of_each steps) x ≡ depth_after n steps x
last_same n [] x = refl
last_same n (s ∷ steps) x =
    elim (cases_Bool (begins_at steps s.from)) [
      | inl b ↦ ap (λ c. depth_after n (cond c (last_of_each steps) (s ∷ last_of_each steps)) x) b ∙ last_same n steps x ∙ sym (first_hidden n s.from s.depth x steps b)
      | inr b ↦ ap (λ c. depth_after n (cond c (last_of_each steps) (s ∷ last_of_each steps)) x) b ∙ last_same (cond (nat_le s.from x) s.depth n) steps x
    ]

-- the capacity has the depth of each round
pub capacity_depth : (setup : Setup) (es : List Happened) (x : ℕ) → depth_at (capacity_of setup es) x ≡ depth_in setup es x
unfolding capacity_of depth_in depth_at
capacity_depth setup es x = last_same 0 (changes_of setup es) x

-- a step that a capacity may have
record IsGood (s : Step) : Type 0 where
  some : 0 < s.depth
  few : s.depth ≤ MAX_DEPTH
  soon : s.from < MAX_ROUNDS

-- good steps from the round n on, none before the one before it
abbrev Follow : ℕ → List Step → Type 0
Follow n [] = ⊤
Follow n (s ∷ steps) = (n ≤ s.from) × IsGood s × Follow s.from steps

-- good steps from the round n on, each after the one before it
abbrev Rise : ℕ → List Step → Type 0
Rise n [] = ⊤
Rise n (s ∷ steps) = (n ≤ s.from) × IsGood s × Rise (s.from + 1) steps

follow_sooner : (m n : ℕ) (steps : List Step) → m ≤ n → Follow n steps → Follow m steps
follow_sooner m n [] h l = tt
follow_sooner m n (s ∷ steps) h l = (omega (arith, h, l.0), l.1, l.2)

rise_sooner : (m n : ℕ) (steps : List Step) → m ≤ n → Rise n steps → Rise m steps
rise_sooner m n [] h l = tt
rise_sooner m n (s ∷ steps) h l = (omega (arith, h, l.0), l.1, l.2)

strictly : (f : ℕ) (steps : List Step) → begins_at steps f ≡ false → Follow f steps → Follow (f + 1) steps
strictly f [] b l = tt
strictly f (t ∷ steps) b l =
    let apart : t.from ≢ f = λ e. eqb-false t.from f b e in
    (omega (arith, apart, l.0), l.1, l.2)

last_rise : (n : ℕ) (steps : List Step) → Follow n steps → Rise n (last_of_each steps)
last_rise n [] l = tt
last_rise n (s ∷ steps) l =
    elim (cases_Bool (begins_at steps s.from)) [
      | inl b ↦ subst (λ c. Rise n (cond c (last_of_each steps) (s ∷ last_of_each steps))) (sym b) (rise_sooner n s.from (last_of_each steps) l.0 (last_rise s.from steps l.2))
      | inr b ↦ subst (λ c. Rise n (cond c (last_of_each steps) (s ∷ last_of_each steps))) (sym b) (l.0, l.1, last_rise (s.from + 1) steps (strictly s.from steps b l.2))
    ]

-- the changes of a list whose first event has the round r
changes_follow : (r D : ℕ) (es : List Happened) → ((k d : ℕ) → At es k (DepthSet d) → (0 < d) × (d ≤ D)) → D ≤ MAX_DEPTH → r + round_of es + 1 < MAX_ROUNDS → Follow (r + 1) (filter_map change (timed r es))
unfolding timed
changes_follow r D [] each most soon = tt
changes_follow r D (DepthSet d ∷ es) each most soon =
    let here = each 0 d refl in
    let good : IsGood (step_after r d) = record { some = here.0; few = omega (arith, here.1, most); soon = omega arith } in
    let rest : Follow (r + 1) (filter_map change (timed r es)) = changes_follow r D es (λ k m h. each (suc k) m h) most (omega (arith, soon, round_cons (DepthSet d) es r)) in
    (omega arith, good, rest)
changes_follow r D (Tick ∷ es) each most soon =
    follow_sooner (r + 1) (r + 1 + 1) (filter_map change (timed (r + 1) es)) (omega arith) (changes_follow (r + 1) D es (λ k m h. each (suc k) m h) most (omega (arith, soon, round_cons Tick es r)))
changes_follow r D (e ∷ es) each most soon = changes_follow r D es (λ k m h. each (suc k) m h) most (omega (arith, soon, round_cons e es r))

-- steps that rise are a capacity
rise_at : (n : ℕ) (steps : List Step) (k : ℕ) (d : Step) → Rise n steps → k < length steps → IsGood (get_or steps k d)
rise_at n [] k d h l = absurd (omega arith)
rise_at n (s ∷ steps) zero d h l = h.1
rise_at n (s ∷ steps) (suc k) d h l = rise_at (s.from + 1) steps k d h.2 (omega arith)

rise_next : (n : ℕ) (steps : List Step) (k : ℕ) (d : Step) → Rise n steps → suc k < length steps → (get_or steps k d).from < (get_or steps (suc k) d).from
rise_next n [] k d h l = absurd (omega arith)
rise_next n (s ∷ []) k d h l = absurd (omega arith)
rise_next n (s ∷ t ∷ steps) zero d h l = omega (arith, h.2.0)
rise_next n (s ∷ t ∷ steps) (suc k) d h l = rise_next (s.from + 1) (t ∷ steps) k d h.2 (omega arith)

rise_step : (n : ℕ) (steps : List Step) (k : ℕ) → Rise n steps → k < length steps → IsStepAt steps k
rise_step n steps zero h l = record {
  rising = λ d some. absurd (omega arith);
  some_depth = λ d. let g : IsGood (get_or steps 0 d) = rise_at n steps 0 d h l in (g.some, g.few);
  round = λ d. let g : IsGood (get_or steps 0 d) = rise_at n steps 0 d h l in g.soon;
}
rise_step n steps (suc k) h l = record {
  rising = λ d some. let e : suc k - 1 ≡ k = omega arith in rw e (rise_next n steps k d h l);
  some_depth = λ d. let g : IsGood (get_or steps (suc k) d) = rise_at n steps (suc k) d h l in (g.some, g.few);
  round = λ d. let g : IsGood (get_or steps (suc k) d) = rise_at n steps (suc k) d h l in g.soon;
}

not_begun : (f : ℕ) (steps : List Step) → Follow (f + 1) steps → begins_at steps f ≡ false
not_begun f [] l = refl
not_begun f (t ∷ steps) l =
    elim (cases_Bool (t.from == f)) [
      | inl b ↦ absurd (omega (arith, l.0, eqb-true t.from f b))
      | inr b ↦ b
    ]

is_capacity : (s : Step) (steps : List Step) → s.from ≡ 0 → IsGood s → Follow 1 steps → IsCapacity (last_of_each (s ∷ steps))
is_capacity s steps start good rest =
    let none : begins_at steps s.from ≡ false = ap (begins_at steps) start ∙ not_begun 0 steps rest in
    let all : Rise 0 (s ∷ last_of_each steps) = (omega arith, good, last_rise (s.from + 1) steps (subst (λ (n : ℕ). Follow n steps) (let e : 1 ≡ s.from + 1 = omega (arith, start) in e) rest)) in
    subst (λ c. IsCapacity (cond c (last_of_each steps) (s ∷ last_of_each steps))) (sym none) record {
      some = omega arith;
      start = λ d. start;
      each = λ k l. rise_step 0 (s ∷ last_of_each steps) k all l;
    }

pub capacity_steps : (setup : Setup) (es : List Happened) → IsSetup setup → IsLegalTrace setup es → IsCapacity (capacity_of setup es)
unfolding capacity_of changes_of
capacity_steps setup es is legal =
    let first : Step = record { from = 0; depth = setup.depth } in
    let good : IsGood first = record { some = is.some_tags; few = omega (arith, is.few_tags); soon = omega arith } in
    let soon : 0 + round_of es + 1 < MAX_ROUNDS = omega (arith, rounds_within es, legal.not_too_long) in
    is_capacity first (filter_map change (timed 0 es)) refl good (changes_follow 0 setup.depth es legal.depth_range (omega (arith, is.few_tags)) soon)

-- a capacity has no fault
some_step : Step
some_step = record { from = 0; depth = 0 }

pub no_fault : (steps : List Step) (f : CapacityFault) → IsCapacity steps → IsFault steps f → ⊥
no_fault steps Start is (inl h) = absurd (omega (arith, h, is.some))
no_fault steps Start is (inr h) = absurd (omega (arith, h some_step, is.start some_step))
no_fault steps (Rising p) is h = absurd (omega (arith, h.1.1 some_step, (is.each p h.0.in_list).rising some_step h.1.0))
no_fault steps (Depth p) is h = elim (h.1.1 some_step) [
  | inl n ↦ absurd (omega (arith, n, ((is.each p h.0.in_list).some_depth some_step).0))
  | inr n ↦ absurd (omega (arith, n, ((is.each p h.0.in_list).some_depth some_step).1))
]
no_fault steps (Round p) is h = absurd (omega (arith, h.1.1.1 some_step, (is.each p h.0.in_list).round some_step))

-- the steps with one more change
some_last : (s : Step) (steps : List Step) → (t : Step) × ((ts : List Step) × (last_of_each (s ∷ steps) ≡ t ∷ ts))
some_last s [] = (s, ([], refl))
some_last s (t ∷ steps) =
    elim (cases_Bool (t.from == s.from)) [
      | inl b ↦ let p = some_last t steps in (p.0, (p.1.0, ap (λ c. cond c (last_of_each (t ∷ steps)) (s ∷ last_of_each (t ∷ steps))) b ∙ p.1.1))
      | inr b ↦ (s, (last_of_each (t ∷ steps), ap (λ c. cond c (last_of_each (t ∷ steps)) (s ∷ last_of_each (t ∷ steps))) b))
    ]

change_below : (t s : Step) (xs : List Step) → (u : Step) × ((us : List Step) × (xs ≡ u ∷ us)) → t ∷ with_change xs s ≡ with_change (t ∷ xs) s
change_below t s [] p = absurd (let q = p.1.1 in cc)
change_below t s (u ∷ us) p = refl

pub last_more : (steps : List Step) (s : Step) → last_of_each (steps ++ s ∷ []) ≡ with_change (last_of_each steps) s
last_more [] s = refl
last_more (t ∷ []) s = refl
last_more (t ∷ u ∷ steps) s =
    let ih : last_of_each (u ∷ steps ++ s ∷ []) ≡ with_change (last_of_each (u ∷ steps)) s = last_more (u ∷ steps) s in
    elim (cases_Bool (u.from == t.from)) [
      | inl b ↦
          ap (λ c. cond c (last_of_each (u ∷ steps ++ s ∷ [])) (t ∷ last_of_each (u ∷ steps ++ s ∷ []))) b
          ∙ ih
          ∙ sym (ap (λ c. with_change (cond c (last_of_each (u ∷ steps)) (t ∷ last_of_each (u ∷ steps))) s) b)
      | inr b ↦
          ap (λ c. cond c (last_of_each (u ∷ steps ++ s ∷ [])) (t ∷ last_of_each (u ∷ steps ++ s ∷ []))) b
          ∙ ap (λ l. t ∷ l) ih
          ∙ change_below t s (last_of_each (u ∷ steps)) (some_last u steps)
          ∙ sym (ap (λ c. with_change (cond c (last_of_each (u ∷ steps)) (t ∷ last_of_each (u ∷ steps))) s) b)
    ]

-- where it goes
pub change_here : (steps : List Step) (s d : Step) (k : ℕ) → k + 1 ≡ length steps → (s.from == (get_or steps k d).from) ≡ true → with_change steps s ≡ set steps k s
change_here [] s d k h e = absurd (omega arith)
change_here (t ∷ []) s d zero h e = ap (λ c. cond c (s ∷ []) (t ∷ s ∷ [])) e
change_here (t ∷ []) s d (suc k) h e = absurd (omega arith)
change_here (t ∷ u ∷ steps) s d zero h e = absurd (omega arith)
change_here (t ∷ u ∷ steps) s d (suc k) h e = ap (λ l. t ∷ l) (change_here (u ∷ steps) s d k (omega arith) e)

pub change_after : (steps : List Step) (s d : Step) (k : ℕ) → k + 1 ≡ length steps → (s.from == (get_or steps k d).from) ≡ false → with_change steps s ≡ steps ++ s ∷ []
change_after [] s d k h e = absurd (omega arith)
change_after (t ∷ []) s d zero h e = ap (λ c. cond c (s ∷ []) (t ∷ s ∷ [])) e
change_after (t ∷ []) s d (suc k) h e = absurd (omega arith)
change_after (t ∷ u ∷ steps) s d zero h e = absurd (omega arith)
change_after (t ∷ u ∷ steps) s d (suc k) h e = ap (λ l. t ∷ l) (change_after (u ∷ steps) s d k (omega arith) e)

-- a trace's capacity with one more event
pub capacity_start : (setup : Setup) → capacity_of setup [] ≡ record { from = 0; depth = setup.depth } ∷ []
unfolding capacity_of changes_of timed
capacity_start setup = refl

pub capacity_kept : (setup : Setup) (es : List Happened) (e : Happened) → sets_depth e ≡ None → capacity_of setup (es ++ e ∷ []) ≡ capacity_of setup es
unfolding capacity_of
capacity_kept setup es e h =
    ap last_of_each (changes_more setup es e ∙ ap (λ o. changes_of setup es ++ cons_option (option_map (step_after (round_of es)) o) []) h ∙ append-nil _)

pub capacity_set : (setup : Setup) (es : List Happened) (depth : ℕ) → capacity_of setup (es ++ DepthSet depth ∷ []) ≡ with_change (capacity_of setup es) (step_after (round_of es) depth)
unfolding capacity_of
capacity_set setup es depth = ap last_of_each (changes_more setup es (DepthSet depth)) ∙ last_more (changes_of setup es) (step_after (round_of es) depth)

pub capacity_some : (setup : Setup) (es : List Happened) → 0 < length (capacity_of setup es)
unfolding capacity_of changes_of
capacity_some setup es =
    let first : Step = record { from = 0; depth = setup.depth } in
    let p = some_last first (filter_map change (timed 0 es)) in
    subst (λ l. 0 < length l) (sym p.1.1) (let q : 0 < length (p.0 ∷ p.1.0) = omega arith in q)

-- without a Depth it is one step
changes_none : (r : ℕ) (es : List Happened) → IsFixed es → filter_map change (timed r es) ≡ []
unfolding timed
changes_none r [] none = refl
changes_none r (DepthSet d ∷ es) none = absurd (none 0 d refl)
changes_none r (Tick ∷ es) none = changes_none (r + 1) es (λ k d h. none (suc k) d h)
changes_none r (e ∷ es) none = changes_none r es (λ k d h. none (suc k) d h)

pub capacity_fixed : (setup : Setup) (es : List Happened) → IsFixed es → capacity_of setup es ≡ fixed setup.depth
unfolding capacity_of changes_of
capacity_fixed setup es none =
    let first : Step = record { from = 0; depth = setup.depth } in
    ap (λ l. last_of_each (first ∷ l)) (changes_none 0 es none)

pub is_fixed : (es : List Happened) → list_any (λ e. is_some (sets_depth e)) es ≡ false → IsFixed es
is_fixed [] h k d at = absurd (cc)
is_fixed (DepthSet n ∷ es) h k d at = absurd (cc)
is_fixed (e ∷ es) h zero d at = absurd (cc)
is_fixed (e ∷ es) h (suc k) d at = is_fixed es h k d at

pub fixed_none : (es : List Happened) → IsFixed es → list_any (λ e. is_some (sets_depth e)) es ≡ false
fixed_none [] none = refl
fixed_none (DepthSet d ∷ es) none = absurd (none 0 d refl)
fixed_none (e ∷ es) none = fixed_none es (λ k d h. none (suc k) d h)

-- the steps and the round after some events
pub record IsReached (setup : Setup) (es : List Happened) (steps : List Step) (round : ℕ) : Type 0 where
  pub steps_are : steps ≡ capacity_of setup es
  pub round_is : round ≡ round_of es

pub reached_start : (setup : Setup) (steps : List Step) (depth : ℕ) → steps ≡ record { from = 0; depth = depth } ∷ [] → depth ≡ setup.depth → IsReached setup [] steps 0
unfolding round_of
reached_start setup steps depth h is = record {
  steps_are = h ∙ ap (λ (n : ℕ). let s : Step = record { from = 0; depth = n } in s ∷ []) is ∙ sym (capacity_start setup);
  round_is = refl;
}

pub reached_tick : (setup : Setup) (es zs : List Happened) (e : Happened) (steps steps' : List Step) (round round' : ℕ) → IsReached setup es steps round → zs ≡ es ++ e ∷ [] → is_tick e ≡ true → steps' ≡ steps → round' ≡ round + 1 → IsReached setup zs steps' round'
reached_tick setup es zs e steps steps' round round' old hz tick hs hr = subst (λ l. IsReached setup l steps' round') (sym (hz ∙ ap (λ x. es ++ x ∷ []) (tick_is e tick))) record {
  steps_are = hs ∙ old.steps_are ∙ sym (capacity_kept setup es Tick refl);
  round_is = omega (arith, hr, old.round_is, round_more es Tick);
}

pub reached_set : (setup : Setup) (es zs : List Happened) (e : Happened) (depth : ℕ) (steps steps' : List Step) (round round' : ℕ) → IsReached setup es steps round → zs ≡ es ++ e ∷ [] → sets_depth e ≡ Some depth → steps' ≡ with_change steps (step_after round depth) → round' ≡ round → IsReached setup zs steps' round'
reached_set setup es zs e depth steps steps' round round' old hz sets hs hr = subst (λ l. IsReached setup l steps' round') (sym (hz ∙ ap (λ x. es ++ x ∷ []) (depth_is e depth sets))) record {
  steps_are = hs ∙ ap (λ l. with_change l (step_after round depth)) old.steps_are ∙ ap (λ n. with_change (capacity_of setup es) (step_after n depth)) old.round_is ∙ sym (capacity_set setup es depth);
  round_is = omega (arith, hr, old.round_is, round_more es (DepthSet depth));
}

pub reached_kept : (setup : Setup) (es zs : List Happened) (e : Happened) (steps steps' : List Step) (round round' : ℕ) → IsReached setup es steps round → zs ≡ es ++ e ∷ [] → sets_depth e ≡ None → is_tick e ≡ false → steps' ≡ steps → round' ≡ round → IsReached setup zs steps' round'
reached_kept setup es zs e steps steps' round round' old hz none still hs hr = subst (λ l. IsReached setup l steps' round') (sym hz) record {
  steps_are = hs ∙ old.steps_are ∙ sym (capacity_kept setup es e none);
  round_is = omega (arith, hr, old.round_is, round_more es e ∙ ap (λ b. round_of es + cond b 1 0) still);
}
