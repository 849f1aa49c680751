use Rattle.std.specs.Ordering.{nat_cmp}
use Rattle.ordered.specs.Ordered.{listed}
use Rattle.blk_index.specs.Keys.{keyed_cmp}
use Rattle.blk_index.proofs.Dues.{some_of_all, none_of_all}
use Rattle.blk_index.proofs.sorted.least_from.Goals as goal

pub returns-then-due-eq0-clause-some : goal.returns-then-due-eq0-clause-some
returns-then-due-eq0-clause-some g c = some_of_all (listed (keyed_cmp nat_cmp) c.args.order.now) c.args.due c.first.result c.if-due-eq0.true c.first.ensures.some

pub returns-then-due-eq0-clause-none : goal.returns-then-due-eq0-clause-none
returns-then-due-eq0-clause-none g c = none_of_all (listed (keyed_cmp nat_cmp) c.args.order.now) c.args.due c.first.result c.first.ensures.none
