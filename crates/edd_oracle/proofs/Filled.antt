-- Windows that are full of commands on time bound how many more another schedule has on time.
use Rattle.std.proofs.Common.{◌≡◌, ◌<◌, ◌≤◌, ℕ, ◌+◌, Bool, true, false, not, ◌&&◌, nat_le, ◌==◌, List, length, get_or, count_by, ◌⊎◌, inl, inr, arith, refl, sym, ◌∙◌, subst}
use Rattle.std.specs.List.{zip}
use Rattle.std.proofs.lemmas.List.{get_or_default}
use Rattle.std.proofs.lemmas.Bool.{cases_Bool, cases_lt, and_parts, and_from, and_left, and_right, leb-true, le-leb, eqb-true, eq-eqb, not-true, not_from_false, not_from_true}
use Rattle.edd_commands.specs.declared.Command.{Command}
use Rattle.edd_check.specs.declared.Window.{Window}
use Rattle.edd_commands.specs.declared.steps.Step.{Step}
use Rattle.edd_commands.specs.Capacity.{depth_at}
use Rattle.edd_commands.specs.Schedule.{IsLegal}
use Rattle.edd_check.specs.OnTime.{number_on_time, is_on_time, lies_in, holds}
use Rattle.edd_check.proofs.Covers.{lies_here}
use Rattle.edd_commands.proofs.Counting.{count_of_either}
use Rattle.edd_oracle.proofs.Counting.{count_of_both, count_wider, count_never, count_fewer, count_along_either, count_by_key, search_below, is_found, found_here, found_from}
use Rattle.edd_oracle.proofs.Pairs.{length_pairs, tested, untested, at_places}

-- on time, and in the window
abbrev pub is_held : Window → Command × ℕ → Bool
is_held w p = is_on_time p.0 p.1 && lies_in p.0 w

pub held_parts : (w : Window) (c : Command) (x : ℕ) → is_held w (c, x) ≡ true → (x ≤ c.due) × (w.from ≤ c.release) × (c.due ≤ w.due)
held_parts w c x h =
    let parts = and_parts (is_on_time c x) (lies_in c w) h in
    let both = and_parts (holds w c.release) (holds w c.due) parts.1 in (
      leb-true x c.due parts.0,
      leb-true w.from c.release (and_parts (nat_le w.from c.release) (nat_le c.release w.due) both.0).0,
      leb-true c.due w.due (and_parts (nat_le w.from c.due) (nat_le c.due w.due) both.1).1,
    )

pub held_from : (w : Window) (c : Command) (x : ℕ) → c.release ≤ x → x ≤ c.due → w.from ≤ c.release → c.due ≤ w.due → is_held w (c, x) ≡ true
held_from w c x released in_time low high =
    and_from (is_on_time c x) (lies_in c w) (le-leb x c.due in_time) (lies_here c w (omega arith) low high)

-- each place of the window's rounds went to a command that is on time and lies in it
abbrev pub Fills : List Command → List ℕ → List Step → Window → Type 0
Fills commands rounds steps w = (x : ℕ) → w.from ≤ x → x ≤ w.due → depth_at steps x ≤ count_by (λ p. is_held w p && p.1 == x) (zip commands rounds)

module _ (commands : List Command) (rounds : List ℕ) (steps : List Step) (legal : IsLegal commands rounds steps) where
  -- whatever runs in a filled window is on time and lies in it
  pub runs_inside : (w : Window) → Fills commands rounds steps w → (k : ℕ) (d : Command) → k < length commands → w.from ≤ get_or rounds k 0 → get_or rounds k 0 ≤ w.due → is_held w (get_or commands k d, get_or rounds k 0) ≡ true
  runs_inside w filled k d within low high =
      let x : ℕ = get_or rounds k 0 in
      let c : Command = get_or commands k d in
      elim (cases_Bool (is_held w (c, x))) [
        | inl inside ↦ inside
        | inr out ↦
            let fewer : count_by (λ p. is_held w p && p.1 == x) (zip commands rounds) < count_by (λ (p : Command × ℕ). p.1 == x) (zip commands rounds) =
            count_fewer (λ p. is_held w p && p.1 == x) (λ (p : Command × ℕ). p.1 == x)
            (λ p yes. (and_parts (is_held w p) (p.1 == x) yes).1)
            (zip commands rounds) k (d, 0) (omega (arith, length_pairs commands rounds legal.one_each))
            (tested commands rounds (λ p. p.1 == x) true k d (d, 0) legal.one_each within (eq-eqb x x refl))
            (tested commands rounds (λ p. is_held w p && p.1 == x) false k d (d, 0) legal.one_each within (and_left (is_held w (c, x)) (x == x) out)) in
            let placed = at_places commands rounds (λ (p : Command × ℕ). p.1 == x) x legal.one_each (λ p yes. eqb-true p.1 x yes) in
            absurd (omega (arith, fewer, placed, filled x low high, legal.within_depth x))
      ]

  -- where each command has a window that is filled
  module _ (window : ℕ → Window) (d : Command) (filled : (k : ℕ) → k < length commands → Fills commands rounds steps (window k)) where
    -- a round of a window
    abbrev tight : ℕ → Bool
    tight y = is_found (search_below (λ k. holds (window k) y) (length commands))

    tight_found : (y : ℕ) → tight y ≡ true → (k : ℕ) × (k < length commands) × ((window k).from ≤ y) × (y ≤ (window k).due)
    tight_found y h =
        let found = found_from (search_below (λ k. holds (window k) y) (length commands)) h in
        let ends = and_parts (nat_le (window found.0).from y) (nat_le y (window found.0).due) found.2 in
        (found.0, found.1, leb-true (window found.0).from y ends.0, leb-true y (window found.0).due ends.1)

    tight_here : (y k : ℕ) → k < length commands → (window k).from ≤ y → y ≤ (window k).due → tight y ≡ true
    tight_here y k within low high =
        let here : holds (window k) y ≡ true = and_from (nat_le (window k).from y) (nat_le y (window k).due) (le-leb (window k).from y low) (le-leb y (window k).due high) in
        found_here (search_below (λ k. holds (window k) y) (length commands)) (λ none. let clash : true ≡ false = sym here ∙ none k within in cc)

    -- on time in such a round, and elsewhere
    abbrev inside : Command × ℕ → Bool
    inside p = is_on_time p.0 p.1 && tight p.1

    abbrev apart : Command × ℕ → Bool
    apart p = is_on_time p.0 p.1 && not (tight p.1)

    -- such a round has as many on time as any schedule has there
    no_more_at : (other : List ℕ) → IsLegal commands other steps → (v : ℕ) → count_by (λ p. inside p && p.1 == v) (zip commands other) ≤ count_by (λ p. inside p && p.1 == v) (zip commands rounds)
    no_more_at other legal' v =
        elim (cases_Bool (tight v)) [
          | inr loose ↦
              omega (
                arith,
                count_never (λ p. inside p && p.1 == v)
                    (λ p yes.
                    let parts = and_parts (inside p) (p.1 == v) yes in
                    let here : tight v ≡ true = subst (λ n. tight n ≡ true) (eqb-true p.1 v parts.1) (and_parts (is_on_time p.0 p.1) (tight p.1) parts.0).1 in
                    let clash : true ≡ false = sym here ∙ loose in
                    cc)
                    (zip commands other),
              )
          | inl held ↦
              let found = tight_found v held in
              let w : Window = window found.0 in
              let placed = at_places commands other (λ p. inside p && p.1 == v) v legal'.one_each (λ p yes. eqb-true p.1 v (and_parts (inside p) (p.1 == v) yes).1) in
              let wider : count_by (λ p. is_held w p && p.1 == v) (zip commands rounds) ≤ count_by (λ p. inside p && p.1 == v) (zip commands rounds) =
              count_wider (λ p. is_held w p && p.1 == v) (λ p. inside p && p.1 == v)
              (λ p yes.
              let parts = and_parts (is_held w p) (p.1 == v) yes in
              and_from (inside p) (p.1 == v)
              (and_from (is_on_time p.0 p.1) (tight p.1) (and_parts (is_on_time p.0 p.1) (lies_in p.0 w) parts.0).0 (subst (λ n. tight n ≡ true) (sym (eqb-true p.1 v parts.1)) held)) parts.1)
              (zip commands rounds) in
              omega (arith, placed, wider, filled found.0 found.1 v found.2 found.3, legal'.within_depth v)
        ]

    -- another schedule has no more on time than are so here, and late ones that pass: those in whose window they lie can't be
    pub on_time_most : {X : Type 0} (test : X → Bool) (extra : List X) (e : X) (other : List ℕ) → length extra ≡ length commands → IsLegal commands other steps
        → ((k : ℕ) → k < length commands → (get_or commands k d).release ≤ (get_or commands k d).due → (get_or commands k d).due < get_or rounds k 0 → (((window k).from ≤ (get_or commands k d).release) × ((get_or commands k d).due ≤ (window k).due)) ⊎ (test (get_or extra k e) ≡ true)) → number_on_time commands other ≤ number_on_time commands rounds + count_by test extra
    unfolding number_on_time
    on_time_most test extra e other same legal' around =
        let long : length (zip commands other) ≡ length commands = length_pairs commands other legal'.one_each in
        let long' : length (zip commands rounds) ≡ length commands = length_pairs commands rounds legal.one_each in
        let split : count_by (λ p. is_on_time p.0 p.1) (zip commands other) ≤ count_by inside (zip commands other) + count_by apart (zip commands other) =
        count_of_either (λ p. is_on_time p.0 p.1) inside apart
        (λ p yes. elim (cases_Bool (tight p.1)) [
          | inl here ↦ inl (and_from (is_on_time p.0 p.1) (tight p.1) yes here)
          | inr out ↦ inr (and_from (is_on_time p.0 p.1) (not (tight p.1)) yes (not_from_false (tight p.1) out))
        ])
        (zip commands other) in
        let fewer : count_by inside (zip commands other) ≤ count_by inside (zip commands rounds) =
        count_by_key inside (λ p. p.1) inside (λ p. p.1) (zip commands other) (zip commands rounds) (no_more_at other legal') in
        let kept : count_by apart (zip commands other) ≤ count_by apart (zip commands rounds) + count_by test extra =
        count_along_either apart apart test (zip commands other) (zip commands rounds) extra (long' ∙ sym long) (same ∙ sym long)
        (λ k q r u h yes.
        let k_in : k < length commands = omega (arith, long) in
        let c : Command = get_or commands k d in
        let x : ℕ = get_or rounds k 0 in
        let y : ℕ = get_or other k 0 in
        let parts = and_parts (is_on_time c y) (not (tight y)) (untested commands other apart true k d q legal'.one_each k_in yes) in
        let released : c.release ≤ y = legal'.released k d k_in in
        let in_time : y ≤ c.due = leb-true y c.due parts.0 in
        let loose : tight y ≡ false = not-true (tight y) parts.1 in
        elim (cases_lt c.due x) [
          | inl late ↦
              elim (around k k_in (omega arith) late) [
                | inr passes ↦ inr (subst (λ z. test z ≡ true) (get_or_default extra k e u (omega (arith, same))) passes)
                | inl ends ↦ absurd (let clash : true ≡ false = sym (tight_here y k k_in (omega (arith, ends.0)) (omega (arith, ends.1))) ∙ loose in cc)
              ]
          | inr timely ↦
              let out : tight x ≡ false =
              elim (cases_Bool (tight x)) [
                | inr out ↦ out
                | inl here ↦
                    let found = tight_found x here in
                    let lies = held_parts (window found.0) c x (runs_inside (window found.0) (filled found.0 found.1) k d k_in found.2 found.3) in
                    absurd (let clash : true ≡ false = sym (tight_here y found.0 found.1 (omega (arith, lies.1)) (omega (arith, lies.2))) ∙ loose in cc)
              ] in
              inl (tested commands rounds apart true k d r legal.one_each k_in (and_from (is_on_time c x) (not (tight x)) (le-leb x c.due timely) (not_from_false (tight x) out)))
        ]) in
        let joined : count_by inside (zip commands rounds) + count_by apart (zip commands rounds) ≤ count_by (λ p. is_on_time p.0 p.1) (zip commands rounds) =
        count_of_both (λ p. is_on_time p.0 p.1) inside apart
        (λ p yes.
        let parts = and_parts (is_on_time p.0 p.1) (tight p.1) yes in
        (parts.0, and_right (is_on_time p.0 p.1) (not (tight p.1)) (not_from_true (tight p.1) parts.1)))
        (λ p yes. (and_parts (is_on_time p.0 p.1) (not (tight p.1)) yes).0)
        (zip commands rounds) in
        omega (arith, split, fewer, kept, joined)
