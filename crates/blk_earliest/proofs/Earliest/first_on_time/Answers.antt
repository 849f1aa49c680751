use Rattle.blk_earliest.proofs.Listing.{some_on_time, none_on_time}
use Rattle.blk_earliest.proofs.Earliest.first_on_time.Goals as goal

pub returns-clause-some : goal.returns-clause-some
returns-clause-some g c = some_on_time c.args.self.now.waiting c.args.now c.first_from.result c.first_from.ensures.named c.first_from.ensures.some

pub returns-clause-none : goal.returns-clause-none
returns-clause-none g c = none_on_time c.args.self.now.waiting c.args.now c.first_from.result c.first_from.ensures.none
