use Rattle.std.proofs.Common.{◌≡◌, ◌∙◌, ℕ, List, ap, refl, sym, subst}
use Rattle.std.specs.Prelude.{Option}
use Rattle.edd_commands.specs.declared.Command.{Command}
use Rattle.edd_commands.specs.declared.steps.Step.{Step}
use Rattle.edd_check.specs.OnTime.{number_on_time, IsMostOnTime}
use Rattle.edd_verdict.specs.declared.Verdict.{Verdict}
use Rattle.edd_verdict.specs.Verdicts.{spares_in}
use Rattle.edd_figures.specs.Misses.{number_late}
use Rattle.edd_figures.proofs.Spares.{none_spare, has_spares}
use Rattle.edd_figures.proofs.missing.spare_of.Goals as goal

pub returns-then-number_on_time-most : goal.returns-then-number_on_time-most
returns-then-number_on_time-most g c =
    let cs : List Command = c.args.commands.now in
    let rs : List ℕ = c.args.rounds.now in
    let steps : List Step = c.args.capacity.now in
    let legal = c.requires.legal in
    let most : IsMostOnTime cs steps (number_on_time cs rs) = subst (λ n. IsMostOnTime cs steps n) (sym c.if-number_on_time-most.true ∙ c.number_on_time.ensures) c.requires.most in
    let told = c.law_of_verdicts.ensures.all cs rs steps legal in
    none_spare cs rs steps legal told.0 told.1 (c.law_of_spares.ensures.kinds cs rs steps told.0 legal told.1) (c.law_of_spares.ensures.some cs rs steps told.0 legal told.1 (number_on_time cs rs) most)

pub returns : goal.returns
returns g c =
    let cs : List Command = c.args.commands.now in
    let rs : List ℕ = c.args.rounds.now in
    let steps : List Step = c.args.capacity.now in
    let legal = c.requires.legal in
    let vs : List (Option Verdict) = c.in_ok-verdicts.verdicts.items in
    let are = c.in_ok-verdicts.ensures in
    let spare : c.spares.result ≡ spares_in vs = c.spares.ensures ∙ ap spares_in c.as_slice.ensures.value in
    has_spares cs rs steps legal vs (number_late cs rs) c.spares.result are spare (c.law_of_spares.ensures.kinds cs rs steps vs legal are) refl
