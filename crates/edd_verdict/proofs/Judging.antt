-- Each late command has one verdict.
use Rattle.std.proofs.Common.{◌≡◌, ◌<◌, ◌≤◌, ℕ, ◌+◌, ◌-◌, Bool, true, false, nat_le, List, length, get_or, ◌⊎◌, inl, inr, arith, refl, ap, sym, ◌∙◌, subst}
use Rattle.std.specs.List.{zip}
use Rattle.std.proofs.lemmas.List.{get_or_default}
use Rattle.std.proofs.lemmas.Bool.{cases_lt, and_left, leb-true, le-leb, lt-leb}
use Rattle.edd_commands.specs.declared.Command.{Command}
use Rattle.edd_check.specs.declared.Window.{Window}
use Rattle.edd_commands.specs.declared.steps.Step.{Step}
use Rattle.edd_commands.specs.Schedule.{IsLegal}
use Rattle.edd_check.specs.OnTime.{is_on_time, lies_in, carried_in}
use Rattle.edd_oracle.proofs.Counting.{search_below, is_found, found_here, found_from}
use Rattle.edd_oracle.proofs.Pairs.{nobody, length_pairs, tested, untested}
use Rattle.edd_oracle.proofs.Filled.{is_held, held_parts, held_from}
use Rattle.edd_verdict.specs.declared.Verdict.{Verdict}
use Rattle.edd_verdict.specs.declared.Verdict.TheVariants.{Arrival, Spare, Full}
use Rattle.edd_verdict.specs.Filled.{IsFilled, IsAround, IsFirstFilled}
use Rattle.edd_verdict.specs.Verdicts.{IsLate, CanBeOnTime, IsSpare, IsVerdict}
use Rattle.edd_verdict.proofs.Tallies.{count_along_fewer}
use Rattle.edd_verdict.proofs.Holding.{held_in, filled_holds, held_carried, holds_filled}
use Rattle.edd_verdict.proofs.Sparing.{spare_or_crowded}

abbrev pub window_of : ℕ → ℕ → Window
window_of f u = record { from = f; due = u }

pub same_window : (v w : Window) → v.from ≡ w.from → v.due ≡ w.due → v ≡ w
same_window v w begins ends = ap (λ f. window_of f v.due) begins ∙ ap (λ u. window_of w.from u) ends

module _ (commands : List Command) (rounds : List ℕ) (steps : List Step) (legal : IsLegal commands rounds steps) (k : ℕ) (within : k < length commands) (late : IsLate commands rounds k) where
  abbrev own : Command
  own = get_or commands k nobody

  own_at : (d : Command) → get_or commands k d ≡ own
  own_at d = get_or_default commands k d nobody within

  -- a window around the command's rounds
  pub around_here : (w : Window) → w.from ≤ own.release → own.due ≤ w.due → IsAround commands w k
  around_here w low high =
      record {
        begins = λ d. subst (λ (c : Command). w.from ≤ c.release) (sym (own_at d)) low;
        ends = λ d. subst (λ (c : Command). c.due ≤ w.due) (sym (own_at d)) high;
      }

  -- where it lies in a filled window it can't be on time beside the others
  pub spare_apart : IsSpare commands rounds steps k → (w : Window) → IsFilled commands rounds steps w → IsAround commands w k → ⊥
  spare_apart spare w filled around =
      let other : List ℕ = spare.schedule in
      let released : own.release ≤ get_or other k 0 = spare.legal.released k nobody within in
      let in_time : get_or other k 0 ≤ own.due = spare.on_time nobody in
      let low : w.from ≤ own.release = around.begins nobody in
      let high : own.due ≤ w.due = around.ends nobody in
      let some : w.from ≤ w.due = omega arith in
      let long : length (zip commands rounds) ≡ length commands = length_pairs commands rounds legal.one_each in
      let long' : length (zip commands other) ≡ length commands = length_pairs commands other spare.legal.one_each in
      let more : held_in commands rounds w < held_in commands other w =
      count_along_fewer (is_held w) (is_held w) (zip commands rounds) (zip commands other) (long' ∙ sym long)
      (λ j q e h yes.
      let j_in : j < length commands = omega (arith, long) in
      let c : Command = get_or commands j nobody in
      let parts = held_parts w c (get_or rounds j 0) (untested commands rounds (is_held w) true j nobody q legal.one_each j_in yes) in
      tested commands other (is_held w) true j nobody e spare.legal.one_each j_in
      (held_from w c (get_or other j 0) (spare.legal.released j nobody j_in) (spare.kept j nobody j_in parts.0) parts.1 parts.2))
      k (nobody, 0) (nobody, 0) (omega (arith, long))
      (tested commands rounds (is_held w) false k nobody (nobody, 0) legal.one_each within (and_left (is_on_time own (get_or rounds k 0)) (lies_in own w) (lt-leb (get_or rounds k 0) own.due (late nobody))))
      (tested commands other (is_held w) true k nobody (nobody, 0) spare.legal.one_each within (held_from w own (get_or other k 0) released in_time low high)) in
      omega (arith, more, filled_holds commands rounds steps w filled some, held_carried commands other steps w spare.legal some)

  -- whether the window from f to u is filled, by how many it holds
  abbrev fills : ℕ → ℕ → Bool
  fills u f = nat_le (carried_in steps (window_of f u)) (held_in commands rounds (window_of f u))

  fills_is : (v : Window) → IsFilled commands rounds steps v → v.from ≤ v.due → fills v.due v.from ≡ true
  fills_is v filled some = le-leb (carried_in steps v) (held_in commands rounds v) (filled_holds commands rounds steps v filled some)

  -- a window that is filled, where none ends sooner, and none that ends there begins sooner
  first_here : (u f : ℕ) → own.release ≤ own.due → own.due ≤ u → ((v : Window) → IsFilled commands rounds steps v → IsAround commands v k → v.due < u → ⊥) → f < own.release + 1 → fills u f ≡ true → ((g : ℕ) → g < f → fills u g ≡ false) → IsFirstFilled commands rounds steps k (window_of f u)
  first_here u f can low none f_in passes before =
      record {
        filled = holds_filled commands rounds steps (window_of f u) legal (leb-true (carried_in steps (window_of f u)) (held_in commands rounds (window_of f u)) passes);
        around = around_here (window_of f u) (omega arith) low;
        first = λ v filled around.
            elim (cases_lt v.due u) [
              | inl sooner ↦ absurd (none v filled around sooner)
              | inr other ↦
                  elim (cases_lt u v.due) [
                    | inl later ↦ inl later
                    | inr not_later ↦
                        let same : v.due ≡ u = omega arith in
                        elim (cases_lt v.from f) [
                          | inr after ↦ inr (sym same, after)
                          | inl sooner ↦
                              let holds : fills v.due v.from ≡ true = fills_is v filled (omega (arith, around.begins nobody, around.ends nobody)) in
                              let here : fills u v.from ≡ true = subst (λ n. fills n v.from ≡ true) same holds in
                              absurd (let clash : true ≡ false = sym here ∙ before v.from sooner in cc)
                        ]
                  ]
            ];
      }

  -- whether one ends n rounds after the due round
  abbrev ends_at : ℕ → Bool
  ends_at n = is_found (search_below (fills (own.due + n)) (own.release + 1))

  ends_is : (v : Window) → IsFilled commands rounds steps v → IsAround commands v k → own.release ≤ own.due → ends_at (v.due - own.due) ≡ true
  ends_is v filled around can =
      let low : v.from ≤ own.release = around.begins nobody in
      let high : own.due ≤ v.due = around.ends nobody in
      let same : v.due ≡ own.due + (v.due - own.due) = omega arith in
      let here : fills (own.due + (v.due - own.due)) v.from ≡ true = subst (λ u. fills u v.from ≡ true) same (fills_is v filled (omega arith)) in
      found_here (search_below (fills (own.due + (v.due - own.due))) (own.release + 1)) (λ none. let clash : true ≡ false = sym here ∙ none v.from (omega arith) in cc)

  -- of the filled windows around the command, of which there is one, the one that ends and begins first
  pub first_filled : CanBeOnTime commands k → (w : Window) → IsFilled commands rounds steps w → IsAround commands w k → (x : Window) × IsFirstFilled commands rounds steps k x
  first_filled can w filled around =
      let high : own.due ≤ w.due = around.ends nobody in
      elim (search_below ends_at (w.due + 1 - own.due)) [
        | inr none ↦ absurd (let clash : true ≡ false = sym (ends_is w filled around (can nobody)) ∙ none (w.due - own.due) (omega arith) in cc)
        | inl found ↦
            let u : ℕ = own.due + found.0 in
            let begin = found_from (search_below (fills u) (own.release + 1)) found.2 in (
              window_of begin.0 u,
              first_here u begin.0 (can nobody) (omega arith)
                  (λ v is near before. let late_enough : own.due ≤ v.due = near.ends nobody in let clash : true ≡ false = sym (ends_is v is near (can nobody)) ∙ found.3 (v.due - own.due) (omega arith) in cc)
                  begin.1 begin.2 begin.3,
            )
      ]

  -- in no filled window it can
  pub spare_or_filled : CanBeOnTime commands k → IsSpare commands rounds steps k ⊎ ((w : Window) × IsFilled commands rounds steps w × IsAround commands w k)
  spare_or_filled can =
      elim (spare_or_crowded commands rounds steps legal k within late can) [
        | inl spare ↦ inl spare
        | inr found ↦ inr (found.0, found.1, around_here found.0 found.2 found.3)
      ]

  pub none_spare : CanBeOnTime commands k → ((w : Window) → IsFilled commands rounds steps w → IsAround commands w k → ⊥) → IsSpare commands rounds steps k
  none_spare can none =
      elim (spare_or_filled can) [
        | inl spare ↦ spare
        | inr found ↦ absurd (none found.0 found.1 found.2)
      ]

  pub spare_can : IsSpare commands rounds steps k → CanBeOnTime commands k
  spare_can spare d = omega (arith, spare.legal.released k d within, spare.on_time d)

  pub some_verdict : (verdict : Verdict) × IsVerdict commands rounds steps k verdict
  some_verdict =
      elim (cases_lt own.due own.release) [
        | inl early ↦ (Arrival, λ d. subst (λ (c : Command). c.due < c.release) (sym (own_at d)) early)
        | inr timely ↦
            let can : CanBeOnTime commands k = λ d. subst (λ (c : Command). c.release ≤ c.due) (sym (own_at d)) timely in
            elim (spare_or_filled can) [
              | inl spare ↦ (Spare, spare)
              | inr found ↦ let first = first_filled can found.0 found.1 found.2 in (Full first.0, (can, first.1))
            ]
      ]

  same_first : (v w : Window) → IsFirstFilled commands rounds steps k v → IsFirstFilled commands rounds steps k w → v ≡ w
  same_first v w one other =
      elim (one.first w other.filled other.around) [
        | inl sooner ↦
            elim (other.first v one.filled one.around) [
              | inl later ↦ absurd (omega arith)
              | inr tie ↦ absurd (omega (arith, tie.0))
            ]
        | inr tie ↦
            elim (other.first v one.filled one.around) [
              | inl later ↦ absurd (omega (arith, tie.0))
              | inr tie' ↦ same_window v w (omega (arith, tie.1, tie'.1)) tie.0
            ]
      ]

  pub one_verdict : (a b : Verdict) → IsVerdict commands rounds steps k a → IsVerdict commands rounds steps k b → a ≡ b
  one_verdict Arrival Arrival is also = refl
  one_verdict Arrival Spare is also = absurd (omega (arith, is nobody, spare_can also nobody))
  one_verdict Arrival (Full w) is also = absurd (omega (arith, is nobody, also.0 nobody))
  one_verdict Spare Arrival is also = absurd (omega (arith, also nobody, spare_can is nobody))
  one_verdict Spare Spare is also = refl
  one_verdict Spare (Full w) is also = absurd (spare_apart is w also.1.filled also.1.around)
  one_verdict (Full w) Arrival is also = absurd (omega (arith, also nobody, is.0 nobody))
  one_verdict (Full w) Spare is also = absurd (spare_apart also w is.1.filled is.1.around)
  one_verdict (Full w) (Full v) is also = ap (λ x. Full x) (same_first w v is.1 also.1)
