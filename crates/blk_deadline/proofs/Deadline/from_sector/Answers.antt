use Rattle.std.proofs.lemmas.Option.{IfSome_then}
use Rattle.std.proofs.Common.{sym, ◌∙◌}
use Rattle.blk_deadline.proofs.Listing.{lowest_is, from_is, none_from}
use Rattle.blk_deadline.proofs.Served.{if_none}
use Rattle.blk_deadline.proofs.Deadline.from_sector.Goals as goal

pub returns-then-has_lowest-clause-some : goal.returns-then-has_lowest-clause-some
returns-then-has_lowest-clause-some g c = lowest_is c.args.self.now.index c.args.dir c.args.sector c.has_lowest.ensures.named (sym c.has_lowest.ensures.value ∙ c.if-has_lowest.true)

pub returns-clause-some : goal.returns-clause-some
returns-clause-some g c =
    IfSome_then c.next.result c.next.ensures.some (λ id best. from_is c.args.self.now.index c.args.dir c.args.sector id c.has_lowest.ensures.named (sym c.has_lowest.ensures.value ∙ c.if-has_lowest.false) best)

pub returns-clause-none : goal.returns-clause-none
returns-clause-none g c = if_none c.next.result c.next.ensures.none (λ none. none_from c.args.self.now.index c.args.dir c.args.sector (sym c.has_lowest.ensures.value ∙ c.if-has_lowest.false) none)
