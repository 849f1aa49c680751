use Rattle.blk_earliest.proofs.Listing.{some_first, none_first, none_waits}
use Rattle.blk_earliest.proofs.Earliest.first.Goals as goal

pub returns-clause-some : goal.returns-clause-some
returns-clause-some g c = some_first c.args.self.now.waiting c.first_from.result c.first_from.ensures.named c.first_from.ensures.some

pub returns-clause-none : goal.returns-clause-none
returns-clause-none g c = none_first c.args.self.now.waiting c.first_from.result c.first_from.ensures.none

pub returns-clause-all : goal.returns-clause-all
returns-clause-all g c = none_waits c.args.self.now.waiting c.first_from.result c.first_from.ensures.none
