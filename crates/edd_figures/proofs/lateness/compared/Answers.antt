use Rattle.std.proofs.Common.{rules, ◌≡◌, ◌≤ℤ◌, ℤ, ◌-ℤ◌, subst, sym, pos, FitsSigned, w64, to_z, of_z, arith}
use Rattle.std.proofs.lemmas.Int.{ints, to_z-of_z}
use Rattle.edd_commands.specs.Schedule.{IsGreatestLateness, IsLeastLateness}
use Rattle.edd_check.specs.Window.{IsCrowded}
use Rattle.edd_figures.specs.Figures.{shortfall_of}
use Rattle.edd_figures.proofs.Within.{lost_fits}
use Rattle.edd_figures.proofs.lateness.compared.Goals as goal

pub overflow_sub-result : goal.overflow_sub-result
overflow_sub-result g c =
    let greatest : ℤ = c.in-Some.greatest in
    let least : ℤ = c.args.answer.now.lateness in
    let best = c.requires.best in
    let legal = c.requires.scheduled in
    let back : greatest ≡ to_z w64 (of_z w64 greatest) = search (rules, to_z-of_z) in
    let back' : least ≡ to_z w64 (of_z w64 least) = search (rules, to_z-of_z) in
    let fits : FitsSigned w64 (greatest -ℤ least) =
    lost_fits c.args.commands.now c.args.rounds.now c.args.answer.now.rounds.items greatest least c.requires.commands_in c.requires.rounds_in best.rounds_in legal.one_each best.legal.one_each c.in-Some.ensures.greatest best.greatest in
    subst (λ z. FitsSigned w64 (z -ℤ to_z w64 (of_z w64 least))) back (subst (λ z. FitsSigned w64 (greatest -ℤ z)) back' fits)

pub returns : goal.returns
returns g c =
    let greatest : ℤ = c.in-Some.greatest in
    let least : ℤ = c.args.answer.now.lateness in
    let best = c.requires.best in
    let legal = c.requires.scheduled in
    let late = c.in-Some.ensures.greatest in
    let back : to_z w64 (of_z w64 greatest) ≡ greatest = search (rules, to_z-of_z) in
    let back' : to_z w64 (of_z w64 least) ≡ least = search (rules, to_z-of_z) in
    let bound : least ≤ℤ greatest = best.least.least c.args.rounds.now greatest legal late in
    let fits : FitsSigned w64 (greatest -ℤ least) =
    lost_fits c.args.commands.now c.args.rounds.now c.args.answer.now.rounds.items greatest least c.requires.commands_in c.requires.rounds_in best.rounds_in legal.one_each best.legal.one_each late best.greatest in
    let lost : to_z w64 (of_z w64 (to_z w64 (of_z w64 greatest) -ℤ to_z w64 (of_z w64 least))) ≡ shortfall_of greatest least =
    subst (λ z. to_z w64 (of_z w64 (z -ℤ to_z w64 (of_z w64 least))) ≡ shortfall_of greatest least) (sym back)
    (subst (λ z. to_z w64 (of_z w64 (greatest -ℤ z)) ≡ shortfall_of greatest least) (sym back') (to_z-of_z w64 (greatest -ℤ least) fits)) in
    record {
      greatest = subst (λ z. IsGreatestLateness c.args.commands.now c.args.rounds.now z) (sym back) late;
      least = subst (λ z. IsLeastLateness c.args.commands.now c.args.capacity.now z) (sym back') best.least;
      shortfall = subst (λ z. to_z w64 (of_z w64 (to_z w64 (of_z w64 greatest) -ℤ to_z w64 (of_z w64 least))) ≡ shortfall_of z (to_z w64 (of_z w64 least))) (sym back) (subst (λ z. to_z w64 (of_z w64 (to_z w64 (of_z w64 greatest) -ℤ to_z w64 (of_z w64 least))) ≡ shortfall_of greatest z) (sym back') lost);
      not_negative = subst (λ z. pos 0 ≤ℤ shortfall_of z (to_z w64 (of_z w64 least))) (sym back) (subst (λ z. pos 0 ≤ℤ shortfall_of greatest z) (sym back') (omega (arith, ints, bound)));
      crowded = subst (λ z. IsCrowded c.args.commands.now c.args.capacity.now z c.args.answer.now.window) (sym back') best.crowded;
      load = c.load.ensures;
      best = c.args.answer.now.rounds.items;
      legal = best.legal;
      first = c.requires.first;
      latest = c.requires.latest;
    }
