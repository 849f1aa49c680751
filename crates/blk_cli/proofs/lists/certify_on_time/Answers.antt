use Rattle.std.proofs.Common.{rules, subst}
use Rattle.edd_oracle.specs.OnTime.{IsMostAnswer}
use Rattle.blk_cli.proofs.OnTimeClaims.{on_time_claim_in}
use Rattle.blk_cli.proofs.lists.certify_on_time.Goals as goal

pub returns-in-Ok-most_on_time-clause-in_range : goal.returns-in-Ok-most_on_time-clause-in_range
returns-in-Ok-most_on_time-clause-in_range c =
    let most : IsMostAnswer c.args.commands.items c.in-Ok.capacity c.in-Ok-most_on_time.answer.rounds.items c.in-Ok-most_on_time.answer.on_time c.in-Ok-most_on_time.answer.cover.items = search rules in
    on_time_claim_in c.args.depth c.in-Ok.capacity c.args.commands.items _ _ _ c.requires c.in-Ok.ensures most

pub returns-in-Ok-most_on_time-clause-proved : goal.returns-in-Ok-most_on_time-clause-proved
returns-in-Ok-most_on_time-clause-proved c =
    let most : IsMostAnswer c.args.commands.items c.in-Ok.capacity c.in-Ok-most_on_time.answer.rounds.items c.in-Ok-most_on_time.answer.on_time c.in-Ok-most_on_time.answer.cover.items = search rules in
    subst (λ s. IsMostAnswer c.args.commands.items s c.in-Ok-most_on_time.answer.rounds.items c.in-Ok-most_on_time.answer.on_time c.in-Ok-most_on_time.answer.cover.items) c.in-Ok.ensures most
