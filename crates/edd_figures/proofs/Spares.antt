-- How many late commands are spare, against how many could have been on time.
use Rattle.std.proofs.Common.{◌≡◌, ◌<◌, ◌+◌, ◌∙◌, ◌↔◌, zero, suc, ℕ, List, [], ◌∷◌, length, get_or, take, cond, Bool, count_by, None, refl, sym, ap, arith}
use Rattle.std.specs.Prelude.{Option}
use Rattle.std.proofs.lemmas.List.{take_more}
use Rattle.std.proofs.lemmas.List.Sums.{sum_by-append}
use Rattle.edd_commands.specs.declared.Command.{Command}
use Rattle.edd_commands.specs.declared.steps.Step.{Step}
use Rattle.edd_commands.specs.Schedule.{IsLegal}
use Rattle.edd_check.specs.OnTime.{number_on_time, IsMostOnTime}
use Rattle.edd_verdict.specs.declared.Verdict.{Verdict}
use Rattle.edd_verdict.specs.Verdicts.{is_spare, AreVerdicts, arrivals_in, fulls_in, spares_in}
use Rattle.edd_figures.specs.Misses.{number_late, IsLeastLate, HasSpares}
use Rattle.edd_figures.proofs.Tardy.{all_commands}

abbrev pub one_if : Bool → ℕ
one_if b = cond b 1 0

-- one verdict more
pub spares_more : (vs : List (Option Verdict)) (n : ℕ) (b : Bool) → n < length vs → b ≡ is_spare (get_or vs n None) → spares_in (take (n + 1) vs) ≡ spares_in (take n vs) + one_if b
unfolding spares_in
spares_more vs n b h is =
    ap (count_by is_spare) (take_more vs n None h)
    ∙ sum_by-append (λ (x : Option Verdict). cond (is_spare x) 1 0) (take n vs) (get_or vs n None ∷ [])
    ∙ ap (λ m. count_by is_spare (take n vs) + m) (omega arith)
    ∙ ap (λ a. count_by is_spare (take n vs) + one_if a) (sym is)

pub no_spares : (vs : List (Option Verdict)) → spares_in (take 0 vs) ≡ 0
unfolding spares_in
no_spares vs = refl

no_more : (n m : ℕ) → (m < m) ↔ (0 < n) → 0 ≡ n
no_more zero m h = refl
no_more (suc n) m h = absurd (let less = h.1 (omega arith) in omega (arith, less))

module _ (commands : List Command) (rounds : List ℕ) (steps : List Step) (legal : IsLegal commands rounds steps) where
  -- the most that is on time, and the fewest that are late
  most_and_fewest : (most late : ℕ) → IsMostOnTime commands steps most → IsLeastLate commands steps late → most + late ≡ length commands
  most_and_fewest most late is fewest =
      omega (arith, all_commands commands is.schedule is.legal.one_each, all_commands commands fewest.schedule fewest.legal.one_each, is.reached, fewest.reached, is.most fewest.schedule fewest.legal, fewest.least is.schedule is.legal)

  -- what could have been avoided is how many more could have been on time
  pub avoidable_is : (most late unavoidable avoidable : ℕ) → IsMostOnTime commands steps most → IsLeastLate commands steps unavoidable → late ≡ number_late commands rounds → unavoidable + avoidable ≡ late → number_on_time commands rounds + avoidable ≡ most
  avoidable_is most late unavoidable avoidable is fewest late_is rest =
      omega (arith, all_commands commands rounds legal.one_each, most_and_fewest most unavoidable is fewest, late_is, rest)

  pub has_spares : (vs : List (Option Verdict)) (late spare : ℕ) → AreVerdicts commands rounds steps vs → spare ≡ spares_in vs → length commands ≡ number_on_time commands rounds + (arrivals_in vs + fulls_in vs + spares_in vs) → late ≡ number_late commands rounds → HasSpares commands rounds steps late spare
  has_spares vs late spare are is kinds late_is = record {
    verdicts = vs;
    are_verdicts = are;
    spares = is;
    kinds = omega (arith, all_commands commands rounds legal.one_each, kinds, late_is, is);
  }

  -- where the schedule has as many on time as any, none is spare
  pub none_spare : (vs : List (Option Verdict)) → AreVerdicts commands rounds steps vs → length commands ≡ number_on_time commands rounds + (arrivals_in vs + fulls_in vs + spares_in vs)
      → (number_on_time commands rounds < number_on_time commands rounds) ↔ (0 < spares_in vs) → HasSpares commands rounds steps (number_late commands rounds) 0
  none_spare vs are kinds some = has_spares vs (number_late commands rounds) 0 are (no_more (spares_in vs) (number_on_time commands rounds) some) kinds refl
