-- In a cover whose bound is reached each window is full, so that its requests are no fewer than it carries.
use Rattle.std.proofs.Common.{◌≡◌, ◌<◌, ◌≤◌, ℕ, ◌+◌, zero, suc, Bool, true, false, not, ◌&&◌, List, [], ◌∷◌, length, get_or, map, count_by, sum_by, inl, inr, arith, refl, sym, subst}
use Rattle.std.specs.List.{zip, list_any, All}
use Rattle.std.proofs.lemmas.List.{get_or-map, length-map}
use Rattle.std.proofs.lemmas.List.Sums.{sum_by-cons}
use Rattle.std.proofs.lemmas.Bool.{cases_Bool, leb-true, le-leb, and_parts, and_from, or_from, not-true, not_from_false}
use Rattle.edd_commands.specs.declared.Command.{Command}
use Rattle.edd_commands.specs.declared.steps.Step.{Step}
use Rattle.edd_commands.specs.Schedule.{IsLegal}
use Rattle.edd_commands.proofs.Counting.{count_of_either}
use Rattle.edd_check.specs.declared.Window.{Window}
use Rattle.edd_check.specs.OnTime.{number_on_time, is_on_time, can_be_on_time, lies_in, inside_of, outside_of, carried_in, carried_by, bound_of, IsCover}
use Rattle.edd_oracle.proofs.Counting.{count_along, count_wider}
use Rattle.edd_oracle.proofs.Pairs.{length_pairs, untested}
use Rattle.edd_oracle.proofs.Filled.{is_held}
use Rattle.edd_verdict.proofs.Holding.{held_in, held_carried}
use Rattle.edd_figures.specs.Misses.{crowd_of, IsLeastLate}
use Rattle.edd_figures.specs.declared.missing.Crowd.{Crowd}
use Rattle.edd_figures.proofs.Tardy.{all_commands}

-- what passes a test passes it with one of several others, or with none of them
split_by : {X W : Type 0} (p : X → Bool) (q : W → X → Bool) (xs : List X) (ws : List W) → count_by p xs ≤ sum_by (λ w. count_by (λ x. p x && q w x) xs) ws + count_by (λ x. p x && not (list_any (λ w. q w x) ws)) xs
split_by p q xs [] =
    omega (arith, count_wider p (λ x. p x && not false) (λ x passes. and_from (p x) (not false) passes refl) xs)
split_by p q xs (w ∷ ws) =
    let rest = split_by p q xs ws in
    let split =
    count_of_either (λ x. p x && not (list_any (λ v. q v x) ws)) (λ x. p x && q w x) (λ x. p x && not (list_any (λ v. q v x) (w ∷ ws)))
    (λ x passes.
    let parts = and_parts (p x) (not (list_any (λ v. q v x) ws)) passes in
    elim (cases_Bool (q w x)) [
      | inl here ↦ inl (and_from (p x) (q w x) parts.0 here)
      | inr other ↦ inr (and_from (p x) (not (list_any (λ v. q v x) (w ∷ ws))) parts.0 (not_from_false _ (or_from (q w x) (list_any (λ v. q v x) ws) other (not-true _ parts.1))))
    ]) xs in
    omega (arith, rest, split, sum_by-cons (λ v. count_by (λ x. p x && q v x) xs) w ws)

sum_le : {W : Type 0} (f g : W → ℕ) (ws : List W) → ((i : ℕ) (d : W) → i < length ws → f (get_or ws i d) ≤ g (get_or ws i d)) → sum_by f ws ≤ sum_by g ws
sum_le f g [] low = omega arith
sum_le f g (w ∷ ws) low =
    let rest = sum_le f g ws (λ i d h. low (suc i) d (omega (arith, h))) in
    omega (arith, rest, low 0 w (omega arith), sum_by-cons f w ws, sum_by-cons g w ws)

-- of two sums that are equal no term is smaller than the other
sum_tight : {W : Type 0} (f g : W → ℕ) (ws : List W) → ((i : ℕ) (d : W) → i < length ws → f (get_or ws i d) ≤ g (get_or ws i d)) → sum_by g ws ≤ sum_by f ws → (i : ℕ) (d : W) → i < length ws → g (get_or ws i d) ≤ f (get_or ws i d)
sum_tight f g [] low high i d h = absurd (omega (arith, h))
sum_tight f g (w ∷ ws) low high zero d h =
    let rest = sum_le f g ws (λ i e at. low (suc i) e (omega (arith, at))) in
    omega (arith, rest, high, sum_by-cons f w ws, sum_by-cons g w ws)
sum_tight f g (w ∷ ws) low high (suc i) d h =
    sum_tight f g ws (λ j e at. low (suc j) e (omega (arith, at))) (omega (arith, high, low 0 w (omega arith), sum_by-cons f w ws, sum_by-cons g w ws)) i d (omega (arith, h))

module _ (commands : List Command) (rounds : List ℕ) (steps : List Step) (legal : IsLegal commands rounds steps) where
  long : length (zip commands rounds) ≡ length commands
  long = length_pairs commands rounds legal.one_each

  -- what is on time can be
  can_be : (k : ℕ) (c : Command) → k < length commands → is_on_time (get_or commands k c) (get_or rounds k 0) ≡ true → can_be_on_time (get_or commands k c) ≡ true
  can_be k c h in_time =
      le-leb (get_or commands k c).release (get_or commands k c).due (omega (arith, legal.released k c h, leb-true (get_or rounds k 0) (get_or commands k c).due in_time))

  held_inside : (w : Window) → held_in commands rounds w ≤ inside_of commands w
  unfolding inside_of
  held_inside w =
      count_along (is_held w) (λ c. can_be_on_time c && lies_in c w) (zip commands rounds) commands (sym long)
      (λ k p c h passes.
      let k_in : k < length commands = omega (arith, h, long) in
      let here : is_held w (get_or commands k c, get_or rounds k 0) ≡ true = untested commands rounds (is_held w) true k c p legal.one_each k_in passes in
      let parts = and_parts (is_on_time (get_or commands k c) (get_or rounds k 0)) (lies_in (get_or commands k c) w) here in
      and_from (can_be_on_time (get_or commands k c)) (lies_in (get_or commands k c) w) (can_be k c k_in parts.0) parts.1)

  apart_outside : (cover : List Window) → count_by (λ (p : Command × ℕ). is_on_time p.0 p.1 && not (list_any (λ w. lies_in p.0 w) cover)) (zip commands rounds) ≤ outside_of commands cover
  unfolding outside_of
  apart_outside cover =
      count_along (λ (p : Command × ℕ). is_on_time p.0 p.1 && not (list_any (λ w. lies_in p.0 w) cover)) (λ c. can_be_on_time c && not (list_any (λ w. lies_in c w) cover)) (zip commands rounds) commands (sym long)
      (λ k p c h passes.
      let k_in : k < length commands = omega (arith, h, long) in
      let here = untested commands rounds (λ (p : Command × ℕ). is_on_time p.0 p.1 && not (list_any (λ w. lies_in p.0 w) cover)) true k c p legal.one_each k_in passes in
      let parts = and_parts (is_on_time (get_or commands k c) (get_or rounds k 0)) (not (list_any (λ w. lies_in (get_or commands k c) w) cover)) here in
      and_from (can_be_on_time (get_or commands k c)) (not (list_any (λ w. lies_in (get_or commands k c) w) cover)) (can_be k c k_in parts.0) parts.1)

  -- where the bound of a cover is reached
  windows_full : (cover : List Window) → IsCover cover → bound_of commands steps cover ≤ number_on_time commands rounds → (i : ℕ) (d : Window) → i < length cover → carried_in steps (get_or cover i d) ≤ inside_of commands (get_or cover i d)
  unfolding number_on_time carried_by
  windows_full cover disjoint reached i d h =
      let split = split_by (λ (p : Command × ℕ). is_on_time p.0 p.1) (λ (w : Window) (p : Command × ℕ). lies_in p.0 w) (zip commands rounds) cover in
      let all : sum_by (λ w. carried_in steps w) cover ≤ sum_by (λ w. held_in commands rounds w) cover = omega (arith, split, reached, apart_outside cover) in
      let full = sum_tight (λ w. held_in commands rounds w) (λ w. carried_in steps w) cover (λ j e at. held_carried commands rounds steps (get_or cover j e) legal ((disjoint j at).some e)) all i d h in
      omega (arith, full, held_inside (get_or cover i d))

-- the windows of a cover whose bound is that of the fewest late ones
pub all_fit : (commands : List Command) (steps : List Step) (cover : List Window) (windows : List Crowd) (unavoidable : ℕ) → IsCover cover → windows ≡ map (crowd_of commands steps) cover → bound_of commands steps cover + unavoidable ≡ length commands → IsLeastLate commands steps unavoidable → All (λ (w : Crowd). w.carries ≤ w.commands) windows
all_fit commands steps cover windows unavoidable disjoint are bound least =
    let reached : bound_of commands steps cover ≤ number_on_time commands least.schedule = omega (arith, bound, all_commands commands least.schedule least.legal.one_each, least.reached) in
    subst (λ l. All (λ (w : Crowd). w.carries ≤ w.commands) l) (sym are)
    (λ i e h.
    let d : Window = record { from = 0; due = 0 } in
    let within : i < length cover = omega (arith, h, length-map cover (crowd_of commands steps)) in
    subst (λ (w : Crowd). w.carries ≤ w.commands) (sym (get_or-map (crowd_of commands steps) cover i d e within))
    (windows_full commands least.schedule steps least.legal cover disjoint reached i d within))
