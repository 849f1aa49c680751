-- What can still be on time goes first, by due rounds, whatever breaks ties: then a schedule has the most on time.
use Rattle.std.proofs.Common.{◌≡◌, ◌<◌, ◌≤◌, ℕ, ◌+◌, ◌-◌, suc, true, false, ◌&&◌, Bool, nat_le, ◌==◌, List, length, get_or, count_by, ◌⊎◌, inl, inr, arith, refl}
use Rattle.std.specs.List.{zip}
use Rattle.std.proofs.lemmas.Bool.{cases_lt, and_parts, and_from, leb-true, le-leb, eqb-true, eq-eqb}
use Rattle.edd_commands.specs.declared.Command.{Command}
use Rattle.edd_check.specs.declared.Window.{Window}
use Rattle.edd_commands.specs.declared.steps.Step.{Step}
use Rattle.edd_commands.specs.Capacity.{depth_at}
use Rattle.edd_commands.specs.Schedule.{IsLegal}
use Rattle.edd_check.specs.OnTime.{number_on_time, is_on_time, IsMostOnTime}
use Rattle.edd_oracle.specs.OnTime.{IsDelayed}
use Rattle.edd_oracle.proofs.Counting.{count_along, count_never}
use Rattle.edd_oracle.proofs.Crowded.{due_from_first, start_of}
use Rattle.edd_oracle.proofs.Filled.{is_held, held_from, Fills, on_time_most}
use Rattle.edd_oracle.proofs.Pairs.{nobody, length_pairs, tested, untested, full_of}
use Rattle.blk_online.specs.OnTimeFirst.{ServesOnTimeFirst}
use Rattle.blk_online.specs.DueFirst.{IsOnTimeDueFirst}

-- on time in the round x, and due by `due`
abbrev is_on_time_at : ℕ → ℕ → Command × ℕ → Bool
is_on_time_at due x p = nat_le p.0.due due && (is_on_time p.0 p.1 && p.1 == x)

module _ (commands : List Command) (steps : List Step) (rounds : List ℕ) (legal : IsLegal commands rounds steps) (first : IsOnTimeDueFirst commands rounds steps) where
  abbrev on_time_at : ℕ → ℕ → ℕ
  on_time_at due x = count_by (is_on_time_at due x) (zip commands rounds)

  -- where a command is delayed the round is full of commands on time due no later
  delayed_full : (x k b : ℕ) → IsDelayed commands rounds x k nobody → (get_or commands k nobody).due ≤ b → depth_at steps x ≤ on_time_at b x
  delayed_full x k b delayed is_due =
      full_of commands rounds steps (is_on_time_at b x) x nobody legal.one_each (first.full x k nobody delayed)
      (λ j h at.
      let both = first.due_first x k j nobody delayed h at in
      let c : Command = get_or commands j nobody in
      and_from (nat_le c.due b) (is_on_time c (get_or rounds j 0) && get_or rounds j 0 == x) (le-leb c.due b (omega (arith, both.1)))
      (and_from (is_on_time c (get_or rounds j 0)) (get_or rounds j 0 == x) (le-leb (get_or rounds j 0) c.due (omega (arith, both.0))) (eq-eqb (get_or rounds j 0) x at)))

  -- the rounds up to b that are full of these, and the window that they make
  begin : (b : ℕ) → (start : ℕ) × (start ≤ suc b) × ((y : ℕ) → start ≤ y → y < suc b → depth_at steps y ≤ on_time_at b y) × ((start ≡ 0) ⊎ (on_time_at b (start - 1) < depth_at steps (start - 1)))
  begin b = start_of (depth_at steps) (on_time_at b) (suc b)

  abbrev window : ℕ → Window
  window b = record { from = (begin b).0; due = b }

  -- what could be on time in a round before it would fill that
  begins_by : (b k : ℕ) → k < length commands → (get_or commands k nobody).due ≤ b → (begin b).0 ≤ (get_or commands k nobody).due + 1 → (begin b).0 ≤ get_or rounds k 0 → (begin b).0 ≤ (get_or commands k nobody).release
  begins_by b k within is_due could runs =
      elim (begin b).3 [
        | inl none ↦ omega arith
        | inr room ↦
            elim (cases_lt (get_or commands k nobody).release (begin b).0) [
              | inr late ↦ late
              | inl early ↦
                  let delayed : IsDelayed commands rounds ((begin b).0 - 1) k nobody = record { in_list = within; released = omega arith; in_time = omega arith; later = omega arith } in
                  absurd (omega (arith, room, delayed_full ((begin b).0 - 1) k b delayed is_due))
            ]
      ]

  window_filled : (b : ℕ) → Fills commands rounds steps (window b)
  window_filled b x low high =
      let w : Window = window b in
      let held : on_time_at b x ≤ count_by (λ p. is_held w p && p.1 == x) (zip commands rounds) =
      count_along (is_on_time_at b x) (λ p. is_held w p && p.1 == x) (zip commands rounds) (zip commands rounds) refl
      (λ j q r h yes.
      let j_in : j < length commands = omega (arith, length_pairs commands rounds legal.one_each) in
      let c : Command = get_or commands j nobody in
      let y : ℕ = get_or rounds j 0 in
      let parts = and_parts (nat_le c.due b) (is_on_time c y && y == x) (untested commands rounds (is_on_time_at b x) true j nobody q legal.one_each j_in yes) in
      let here = and_parts (is_on_time c y) (y == x) parts.1 in
      let is_due : c.due ≤ b = leb-true c.due b parts.0 in
      let in_time : y ≤ c.due = leb-true y c.due here.0 in
      let same : y ≡ x = eqb-true y x here.1 in
      tested commands rounds (λ p. is_held w p && p.1 == x) true j nobody r legal.one_each j_in
      (and_from (is_held w (c, y)) (y == x) (held_from w c y (legal.released j nobody j_in) in_time (begins_by b j j_in is_due (omega arith) (omega arith)) is_due) here.1)) in
      omega (arith, held, (begin b).2 x low (omega arith))

  -- what is passed over lies in the window that ends with its due round
  passed_inside : (k : ℕ) → k < length commands → (get_or commands k nobody).release ≤ (get_or commands k nobody).due → (get_or commands k nobody).due < get_or rounds k 0 → (begin (get_or commands k nobody).due).0 ≤ (get_or commands k nobody).release
  passed_inside k within can late =
      let b : ℕ = (get_or commands k nobody).due in
      begins_by b k within (omega arith) (omega (arith, (begin b).1)) (omega (arith, (begin b).1))

  pub due_first_most : IsMostOnTime commands steps (number_on_time commands rounds)
  due_first_most = record {
    schedule = rounds;
    legal = legal;
    reached = refl;
    most = λ other legal'.
        let bound =
        on_time_most commands rounds steps legal (λ k. window (get_or commands k nobody).due) nobody (λ k h. window_filled (get_or commands k nobody).due) (λ (c : Command). false) commands nobody other refl legal'
        (λ k h can late. inl (passed_inside k h can late, omega arith)) in
        omega (arith, bound, count_never (λ (c : Command). false) (λ c yes. absurd (cc)) commands);
  }

pub most_on_time_first : (commands : List Command) (rounds : List ℕ) (steps : List Step) → IsLegal commands rounds steps → ServesOnTimeFirst commands rounds steps → IsMostOnTime commands steps (number_on_time commands rounds)
most_on_time_first commands rounds steps legal first =
    due_first_most commands steps rounds legal record {
      full = first.full;
      due_first = λ x k p d delayed h at.
          let both = first.due_first x k p d delayed h at in
          (both.0, due_from_first (get_or commands p d) (get_or commands k d) both.1);
    }
