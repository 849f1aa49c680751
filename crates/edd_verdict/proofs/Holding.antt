-- What a window holds of the commands that are on time, counted round by round.
use Rattle.std.proofs.Common.{◌≡◌, ◌<◌, ◌≤◌, ℕ, ◌+◌, ◌-◌, zero, suc, true, ◌&&◌, nat_le, nat_lt, ◌==◌, List, length, get_or, count_by, inl, inr, arith, refl, subst}
use Rattle.std.specs.List.{zip}
use Rattle.std.proofs.lemmas.Bool.{cases_lt, cases_eq, and_parts, and_from, le-leb, lt-ltb, eqb-true}
use Rattle.edd_commands.specs.declared.Command.{Command}
use Rattle.edd_check.specs.declared.Window.{Window}
use Rattle.edd_commands.specs.declared.steps.Step.{Step}
use Rattle.edd_commands.specs.Capacity.{depth_at, carried}
use Rattle.edd_commands.specs.Schedule.{IsLegal, places_at}
use Rattle.edd_check.specs.OnTime.{carried_in}
use Rattle.edd_commands.proofs.InForce.{carried_suc, carried_none}
use Rattle.edd_oracle.proofs.Counting.{count_along, count_wider, is_among, among_none, among_more}
use Rattle.edd_oracle.proofs.Pairs.{length_pairs, tested, untested, at_places}
use Rattle.edd_oracle.proofs.Filled.{is_held, held_parts}
use Rattle.edd_verdict.specs.Filled.{held_at, IsFilled}

-- how many commands that are on time lie in the window
abbrev pub held_in : List Command → List ℕ → Window → ℕ
held_in commands rounds w = count_by (is_held w) (zip commands rounds)

-- of them those in the first n rounds of the window
abbrev held_below : List Command → List ℕ → Window → ℕ → ℕ
held_below commands rounds w n = count_by (is_among (is_held w) (λ p. p.1) w.from n) (zip commands rounds)

module _ (commands : List Command) (rounds : List ℕ) (steps : List Step) (w : Window) where
  -- one round more
  below_more : (n : ℕ) → held_below commands rounds w (suc n) ≡ held_below commands rounds w n + held_at commands rounds w (w.from + n)
  unfolding held_at
  below_more n = among_more (is_held w) (λ p. p.1) w.from n (zip commands rounds)

  -- a filled window holds as many as its rounds carry
  filled_below : IsFilled commands rounds steps w → (n : ℕ) → w.from + n ≤ w.due + 1 → carried steps w.from n ≤ held_below commands rounds w n
  filled_below filled zero within = omega (arith, carried_none steps w.from)
  filled_below filled (suc n) within =
      omega (arith, filled_below filled n (omega arith), filled (w.from + n) (omega arith) (omega arith), below_more n, carried_suc steps w.from n)

  pub filled_holds : IsFilled commands rounds steps w → w.from ≤ w.due → carried_in steps w ≤ held_in commands rounds w
  unfolding carried_in
  filled_holds filled some =
      let n : ℕ = w.due + 1 - w.from in
      let fewer : held_below commands rounds w n ≤ held_in commands rounds w =
      count_wider (is_among (is_held w) (λ p. p.1) w.from n) (is_held w) (λ p yes. (and_parts (is_held w p) (nat_le w.from p.1 && nat_lt p.1 (w.from + n)) yes).0) (zip commands rounds) in
      omega (arith, fewer, filled_below filled n (omega arith))

  module _ (legal : IsLegal commands rounds steps) where
    -- what a window holds in a round runs there
    pub held_places : (x : ℕ) → held_at commands rounds w x ≤ places_at rounds x
    unfolding held_at
    held_places x =
        at_places commands rounds (λ p. is_held w p && p.1 == x) x legal.one_each (λ p yes. eqb-true p.1 x (and_parts (is_held w p) (p.1 == x) yes).1)

    below_carried : (n : ℕ) → held_below commands rounds w n ≤ carried steps w.from n
    below_carried zero = omega (arith, among_none (is_held w) (λ p. p.1) w.from (zip commands rounds))
    below_carried (suc n) =
        omega (arith, below_carried n, below_more n, held_places (w.from + n), legal.within_depth (w.from + n), carried_suc steps w.from n)

    -- fewer where one of the rounds has room
    below_room : (x : ℕ) → w.from ≤ x → held_at commands rounds w x < depth_at steps x → (n : ℕ) → x < w.from + n → held_below commands rounds w n < carried steps w.from n
    below_room x low room zero high = absurd (omega arith)
    below_room x low room (suc n) high =
        elim (cases_eq x (w.from + n)) [
          | inl last ↦
              let room' : held_at commands rounds w (w.from + n) < depth_at steps (w.from + n) = subst (λ y. held_at commands rounds w y < depth_at steps y) last room in
              omega (arith, below_carried n, below_more n, carried_suc steps w.from n)
          | inr before ↦
              omega (arith, below_room x low room n (omega arith), below_more n, held_places (w.from + n), legal.within_depth (w.from + n), carried_suc steps w.from n)
        ]

    -- what lies in the window and is on time runs in its rounds
    all_below : w.from ≤ w.due → held_in commands rounds w ≤ held_below commands rounds w (w.due + 1 - w.from)
    all_below some =
        let n : ℕ = w.due + 1 - w.from in
        let long : length (zip commands rounds) ≡ length commands = length_pairs commands rounds legal.one_each in
        count_along (is_held w) (is_among (is_held w) (λ p. p.1) w.from n) (zip commands rounds) (zip commands rounds) refl
        (λ k q e h yes.
        let k_in : k < length commands = omega (arith, long) in
        let c : Command = get_or commands k q.0 in
        let x : ℕ = get_or rounds k 0 in
        let here : is_held w (c, x) ≡ true = untested commands rounds (is_held w) true k q.0 q legal.one_each k_in yes in
        let parts = held_parts w c x here in
        let released : c.release ≤ x = legal.released k q.0 k_in in
        tested commands rounds (is_among (is_held w) (λ p. p.1) w.from n) true k q.0 e legal.one_each k_in
        (and_from (is_held w (c, x)) (nat_le w.from x && nat_lt x (w.from + n)) here
        (and_from (nat_le w.from x) (nat_lt x (w.from + n)) (le-leb w.from x (omega (arith, parts.1))) (lt-ltb x (w.from + n) (omega (arith, parts.0, parts.2))))))

    -- a window holds at most what its rounds carry
    pub held_carried : w.from ≤ w.due → held_in commands rounds w ≤ carried_in steps w
    unfolding carried_in
    held_carried some = omega (arith, all_below some, below_carried (w.due + 1 - w.from))

    -- and is filled where it holds as many
    pub holds_filled : carried_in steps w ≤ held_in commands rounds w → IsFilled commands rounds steps w
    unfolding carried_in
    holds_filled held x low high =
        elim (cases_lt (held_at commands rounds w x) (depth_at steps x)) [
          | inr enough ↦ enough
          | inl room ↦ absurd (omega (arith, all_below (omega arith), below_room x low room (w.due + 1 - w.from) (omega arith)))
        ]
