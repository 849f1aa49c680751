use Rattle.edd_blame.proofs.Causing.{one_cause}
use Rattle.edd_blame.proofs.late.law_of_causes.Goals as goal

pub returns : goal.returns
returns g c = λ k within late.
    one_cause c.args.commands.now c.args.rounds.now c.args.capacity.now c.args.allowances.now c.args.dispatches.now c.requires.by_clock k within
    (c.law_of_verdicts.ensures.one c.args.commands.now c.args.rounds.now c.args.capacity.now k c.requires.legal c.at.ensures.steps within late)
