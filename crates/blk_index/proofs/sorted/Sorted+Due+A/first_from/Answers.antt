use Rattle.std.specs.Ordering.{nat_cmp}
use Rattle.std.specs.FinMap as map
use Rattle.ordered.specs.Ordered.{listed}
use Rattle.blk_index.specs.Keys.{keyed_cmp}
use Rattle.blk_index.proofs.Dues.{first_due, none_due}
use Rattle.blk_index.proofs.sorted.Sorted+Due+A.first_from.Goals as goal

pub returns-in_err-id-clause-none : goal.returns-in_err-id-clause-none
returns-in_err-id-clause-none g c = rw c.from_residual.ensures (none_due (map.get c.args.self.now) (listed (keyed_cmp nat_cmp) c.order.result.now) c.args.due c.order.ensures c.in_err-id.ensures.none)

pub returns-clause-some : goal.returns-clause-some
returns-clause-some g c = first_due (map.get c.args.self.now) (listed (keyed_cmp nat_cmp) c.order.result.now) c.args.due c.order.ensures (c.in_ok-id.field-0-0, c.in_ok-id.id) c.in_ok-id.ensures.some
