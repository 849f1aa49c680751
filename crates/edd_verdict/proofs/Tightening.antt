-- Tight windows of full rounds are the filled windows of a schedule by earliest due date first whose commands are all on time.
use Rattle.std.proofs.Common.{◌≡◌, ◌<◌, ◌≤◌, ℕ, ◌-◌, ◌==◌, ◌&&◌, nat_le, true, cond, List, length, get_or, map, count_by, inl, inr, arith, refl, ap, sym, ◌∙◌, subst}
use Rattle.std.specs.List.{zip, All}
use Rattle.std.specs.List.Sorted.{IsPermutation}
use Rattle.std.proofs.lemmas.List.Sorted.{sum_by-IsPermutation, All-permutation}
use Rattle.std.proofs.lemmas.List.{get_or-map, length-map}
use Rattle.std.proofs.lemmas.Bool.{cases_lt, and_parts, and_from, leb-true, le-leb, eqb-true}
use Rattle.edd_commands.specs.declared.Command.{Command}
use Rattle.edd_check.specs.declared.Window.{Window}
use Rattle.edd_commands.specs.declared.steps.Step.{Step}
use Rattle.edd_commands.specs.Capacity.{depth_at}
use Rattle.edd_commands.specs.Schedule.{IsLegal, RoundsInRange, places_at}
use Rattle.edd_oracle.specs.Plan.{due_at}
use Rattle.edd_oracle.specs.Priority.{IsEarliestDueFirst}
use Rattle.edd_oracle.proofs.Counting.{count_map, count_along, count_wider}
use Rattle.edd_oracle.proofs.Crowded.{waits_full, due_later}
use Rattle.edd_oracle.proofs.Pairs.{nobody, pair_at, length_pairs, tested, untested, at_places}
use Rattle.edd_oracle.proofs.Filled.{is_held, held_from, held_parts}
use Rattle.edd_oracle.specs.declared.cover.Served.{Served}
use Rattle.edd_oracle.specs.Inside.Cover.{running_at, served_at}
use Rattle.edd_verdict.specs.Inside.Tight.{served_command, IsFullBy, AreFull, IsTight, AreTight}
use Rattle.edd_verdict.specs.Inside.Open.{AreFilled, AreOnTime}
use Rattle.edd_verdict.specs.Filled.{held_at, IsFilled}

module _ (commands : List Command) (rounds : List ℕ) (served : List Served) (moved : IsPermutation (map (λ p. served_command p) (zip commands rounds)) served) where
  pub served_due : (y b : ℕ) → served_at served y b ≡ due_at commands rounds y b
  unfolding served_at due_at
  served_due y b =
      sum_by-IsPermutation (λ s. cond (nat_le s.due b && s.round == y) 1 0) (map (λ p. served_command p) (zip commands rounds)) served moved
      ∙ count_map (λ p. served_command p) (λ s. nat_le s.due b && s.round == y) (zip commands rounds)

  module _ (steps : List Step) (legal : IsLegal commands rounds steps) where
    pub served_few : (y : ℕ) → running_at served y ≤ depth_at steps y
    unfolding running_at
    served_few y =
        let same : running_at served y ≡ count_by (λ (p : Command × ℕ). p.1 == y) (zip commands rounds) =
        sum_by-IsPermutation (λ s. cond (s.round == y) 1 0) (map (λ p. served_command p) (zip commands rounds)) served moved
        ∙ count_map (λ p. served_command p) (λ s. s.round == y) (zip commands rounds) in
        let placed : count_by (λ (p : Command × ℕ). p.1 == y) (zip commands rounds) ≤ places_at rounds y =
        at_places commands rounds (λ (p : Command × ℕ). p.1 == y) y legal.one_each (λ p passes. eqb-true p.1 y passes) in
        omega (arith, same, placed, legal.within_depth y)

    pub served_timely : AreOnTime commands rounds → RoundsInRange rounds → All (λ s. (s.round ≤ s.due) × (s.round < 2199023255552)) served
    served_timely on_time in_range =
        All-permutation (λ s. (s.round ≤ s.due) × (s.round < 2199023255552)) (map (λ p. served_command p) (zip commands rounds)) served moved
        (λ i e h.
        let long : length (zip commands rounds) ≡ length commands = length_pairs commands rounds legal.one_each in
        let i_in : i < length commands = omega (arith, length-map (zip commands rounds) (λ p. served_command p)) in
        let is : get_or (map (λ p. served_command p) (zip commands rounds)) i e ≡ served_command (get_or commands i nobody, get_or rounds i 0) =
        get_or-map (λ p. served_command p) (zip commands rounds) i (nobody, 0) e (omega (arith, long)) ∙ ap (λ (p : Command × ℕ). served_command p) (pair_at commands rounds i (nobody, 0) nobody 0 legal.one_each i_in) in
        subst (λ (s : Served). (s.round ≤ s.due) × (s.round < 2199023255552)) (sym is) (on_time i nobody i_in, in_range i 0 (omega (arith, legal.one_each))))

    module _ (full : List Served) (first : IsEarliestDueFirst commands rounds steps) (on_time : AreOnTime commands rounds) (are : AreFull served steps full) where
      -- full by b in the schedule
      full_due : (y b : ℕ) → IsFullBy full y b → depth_at steps y ≤ due_at commands rounds y b
      unfolding served_at
      full_due y b found =
          let i : ℕ = found.0 in
          let s : Served = record { round = 0; due = 0 } in
          let f : Served = get_or full i s in
          let is = found.2 s in
          let sound : depth_at steps y ≤ served_at served y f.due = subst (λ r. depth_at steps r ≤ served_at served r f.due) is.0 (are.sound i s found.1) in
          let more : served_at served y f.due ≤ served_at served y b =
          count_wider (λ t. nat_le t.due f.due && t.round == y) (λ t. nat_le t.due b && t.round == y)
          (λ t passes. let parts = and_parts (nat_le t.due f.due) (t.round == y) passes in and_from (nat_le t.due b) (t.round == y) (le-leb t.due b (omega (arith, leb-true t.due f.due parts.0, is.1))) parts.1) served in
          omega (arith, sound, more, served_due y b)

      -- what is due by then and runs from the beginning on was released there or later
      released_inside : (w : Window) → IsTight full w → (k : ℕ) → k < length commands → (get_or commands k nobody).due ≤ w.due → w.from ≤ get_or rounds k 0 → w.from ≤ (get_or commands k nobody).release
      released_inside w tight k within is_due runs =
          elim tight.first [
            | inl none ↦ omega arith
            | inr room ↦
                elim (cases_lt (get_or commands k nobody).release w.from) [
                  | inr late ↦ late
                  | inl early ↦
                      let y : ℕ = w.from - 1 in
                      let full : depth_at steps y ≤ due_at commands rounds y w.due =
                      omega (arith, waits_full commands rounds steps legal.one_each first y k nobody within (omega arith) (omega arith), due_later commands rounds y (get_or commands k nobody).due w.due is_due) in
                      absurd (room (are.complete y w.due (omega (arith, full, served_due y w.due))))
                ]
          ]

      tight_filled : (w : Window) → IsTight full w → IsFilled commands rounds steps w
      unfolding due_at held_at
      tight_filled w tight x low high =
          let due_here : depth_at steps x ≤ due_at commands rounds x w.due = full_due x w.due (tight.filled x low high) in
          let long : length (zip commands rounds) ≡ length commands = length_pairs commands rounds legal.one_each in
          let held : due_at commands rounds x w.due ≤ held_at commands rounds w x =
          count_along (λ p. nat_le p.0.due w.due && p.1 == x) (λ p. is_held w p && p.1 == x) (zip commands rounds) (zip commands rounds) refl
          (λ k q e h passes.
          let k_in : k < length commands = omega (arith, long) in
          let c : Command = get_or commands k nobody in
          let y : ℕ = get_or rounds k 0 in
          let parts = and_parts (nat_le c.due w.due) (y == x) (untested commands rounds (λ p. nat_le p.0.due w.due && p.1 == x) true k nobody q legal.one_each k_in passes) in
          let same : y ≡ x = eqb-true y x parts.1 in
          let by_then : c.due ≤ w.due = leb-true c.due w.due parts.0 in
          let inside : w.from ≤ c.release = released_inside w tight k k_in by_then (omega arith) in
          tested commands rounds (λ p. is_held w p && p.1 == x) true k nobody e legal.one_each k_in
          (and_from (is_held w (c, y)) (y == x) (held_from w c y (legal.released k nobody k_in) (on_time k nobody k_in) inside by_then) parts.1)) in
          omega (arith, due_here, held)

      -- a filled window is full of commands due in it
      filled_full : (v : Window) → IsFilled commands rounds steps v → (y : ℕ) → v.from ≤ y → y ≤ v.due → IsFullBy full y v.due
      unfolding held_at due_at
      filled_full v filled y low high =
          let held : held_at commands rounds v y ≤ due_at commands rounds y v.due =
          count_wider (λ p. is_held v p && p.1 == y) (λ p. nat_le p.0.due v.due && p.1 == y)
          (λ p passes.
          let parts = and_parts (is_held v p) (p.1 == y) passes in
          let inside = held_parts v p.0 p.1 parts.0 in
          and_from (nat_le p.0.due v.due) (p.1 == y) (le-leb p.0.due v.due (omega (arith, inside.2))) parts.1)
          (zip commands rounds) in
          are.complete y v.due (omega (arith, held, filled y low high, served_due y v.due))

      pub all_filled : (windows : List Window) → AreTight full windows → AreFilled commands rounds steps windows
      all_filled windows tight =
          record {
            each = λ i e h. tight_filled (get_or windows i e) (tight.each i e h);
            all = λ v filled some.
                let found = tight.all v.due (filled_full v filled v.due (omega arith) (omega arith)) in (
                  found.0,
                  found.1,
                  λ e.
                      let w : Window = get_or windows found.0 e in
                      let ends : w.due ≡ v.due = found.2 e in
                      let is : IsTight full w = tight.each found.0 e found.1 in (
                        ends,
                        elim (cases_lt v.from w.from) [
                          | inr low ↦ low
                          | inl after ↦
                              elim is.first [
                                | inl none ↦ omega arith
                                | inr room ↦ absurd (room (subst (λ b. IsFullBy full (w.from - 1) b) (sym ends) (filled_full v filled (w.from - 1) (omega arith) (omega (arith, is.some)))))
                              ]
                        ],
                      ),
                );
            rising = tight.rising;
          }
