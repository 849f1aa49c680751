use Rattle.edd_oracle.proofs.Passing.{passes_on_time}
use Rattle.edd_oracle.proofs.law_of_on_time_checks.Goals as goal

pub returns-clause-passed : goal.returns-clause-passed
returns-clause-passed g c =
    let most = c.requires in
    passes_on_time c.args.commands.now c.args.capacity.now c.args.answer.now.rounds.items c.args.answer.now.on_time c.args.answer.now.cover.items most.legal most.number most.disjoint most.bound
