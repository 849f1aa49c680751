use Rattle.std.proofs.Common.{◌≡◌, ◌+◌, ◌∙◌, ℕ, List, ap, arith}
use Rattle.std.specs.Prelude.{Option}
use Rattle.edd_commands.specs.declared.Command.{Command}
use Rattle.edd_commands.specs.declared.steps.Step.{Step}
use Rattle.edd_check.specs.OnTime.{number_on_time}
use Rattle.edd_verdict.specs.declared.Verdict.{Verdict}
use Rattle.edd_verdict.specs.Verdicts.{spares_in}
use Rattle.edd_figures.specs.declared.missing.Counts.{Counts}
use Rattle.edd_figures.proofs.Spares.{avoidable_is, has_spares}
use Rattle.edd_figures.proofs.missing.misses_of.Goals as goal

pub returns : goal.returns
returns g c =
    let cs : List Command = c.args.commands.now in
    let rs : List ℕ = c.args.rounds.now in
    let steps : List Step = c.args.capacity.now in
    let m : Counts = c.in_ok-missed.missed.counts in
    let found = c.in_ok-spare.ensures in
    let vs : List (Option Verdict) = found.verdicts in
    let legal = c.requires.legal in
    let told = c.in_ok-missed.ensures.misses in
    let judged = found.are_verdicts in
    let most = c.in-Ok.ensures.most.most in
    let spare : m.spare ≡ spares_in vs = c.in_ok-missed.ensures.kept ∙ found.spares in
    let kinds = c.law_of_spares.ensures.kinds cs rs steps vs legal judged in
    let more : number_on_time cs rs + m.avoidable ≡ c.in-Ok.answer.on_time = avoidable_is cs rs steps legal c.in-Ok.answer.on_time m.late m.unavoidable m.avoidable most told.least told.late_is told.rest in
    let bound = c.law_of_spares.ensures.most cs rs steps vs legal judged c.in-Ok.answer.on_time most in
    let some = c.law_of_spares.ensures.some cs rs steps vs legal judged c.in-Ok.answer.on_time most in
    record {
      are = told;
      spares = has_spares cs rs steps legal vs m.late m.spare judged spare kinds told.late_is;
      at_most = omega (arith, more, bound, spare);
      some = (
        λ h. (let found = some.0 (omega (arith, more, h)) in omega (arith, found, spare)),
        λ h. (let found = some.1 (omega (arith, spare, h)) in omega (arith, found, more)),
      );
    }
