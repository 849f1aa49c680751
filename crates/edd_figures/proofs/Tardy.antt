-- How many commands are late, against how many are on time.
use Rattle.std.proofs.Common.{◌≡◌, ◌+◌, ℕ, List, [], ◌∷◌, length, cond, count_by, nat_le, nat_lt, refl, ◌∙◌, arith, inl, inr}
use Rattle.std.specs.List.{zip}
use Rattle.std.proofs.lemmas.Bool.{le-leb, lt-leb, lt-ltb, le-ltb, cases_lt}
use Rattle.std.proofs.lemmas.List.Sums.{sum_by-cons}
use Rattle.edd_commands.specs.declared.Command.{Command}
use Rattle.edd_commands.specs.declared.steps.Step.{Step}
use Rattle.edd_check.specs.OnTime.{number_on_time, is_on_time, IsMostOnTime}
use Rattle.edd_check.proofs.Covers.{length_pairs}
use Rattle.edd_figures.specs.Misses.{number_late, IsLeastLate}

one_of : (d x : ℕ) → cond (nat_le x d) 1 0 + cond (nat_lt d x) 1 0 ≡ 1
one_of d x =
    elim (cases_lt d x) [
      | inl late ↦ rw (lt-leb x d late, lt-ltb d x late) refl
      | inr on_time ↦ rw (le-leb x d on_time, le-ltb d x on_time) refl
    ]

on_time_or_late : (ps : List (Command × ℕ)) → count_by (λ p. is_on_time p.0 p.1) ps + count_by (λ (p : Command × ℕ). nat_lt p.0.due p.1) ps ≡ length ps
on_time_or_late [] = refl
on_time_or_late (p ∷ ps) =
    let ih = on_time_or_late ps in
    let a = sum_by-cons (λ (p : Command × ℕ). cond (is_on_time p.0 p.1) 1 0) p ps in
    let b = sum_by-cons (λ (p : Command × ℕ). cond (nat_lt p.0.due p.1) 1 0) p ps in
    omega (arith, ih, a, b, one_of p.0.due p.1)

-- each command is on time or late
pub all_commands : (commands : List Command) (rounds : List ℕ) → length rounds ≡ length commands → number_on_time commands rounds + number_late commands rounds ≡ length commands
unfolding number_on_time number_late
all_commands commands rounds h = on_time_or_late (zip commands rounds) ∙ length_pairs commands rounds h

-- where no schedule has more on time, none has fewer late
pub least_late : (commands : List Command) (steps : List Step) (on_time late : ℕ) → IsMostOnTime commands steps on_time → on_time + late ≡ length commands → IsLeastLate commands steps late
least_late commands steps on_time late most all = record {
  schedule = most.schedule;
  legal = most.legal;
  reached = omega (arith, all_commands commands most.schedule most.legal.one_each, most.reached, all);
  least = λ rounds legal. omega (arith, all_commands commands rounds legal.one_each, most.most rounds legal, all);
}
