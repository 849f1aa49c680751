use Rattle.edd_oracle.proofs.Passing.{passes}
use Rattle.edd_oracle.proofs.law_of_checks.Goals as goal

pub returns-clause-passed : goal.returns-clause-passed
returns-clause-passed g c =
    let best = c.requires.best in
    passes c.args.commands.now c.args.capacity.now c.args.answer.now.lateness c.args.answer.now.rounds.items c.args.answer.now.window best.legal best.greatest best.crowded
