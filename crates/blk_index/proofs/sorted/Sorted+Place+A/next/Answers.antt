use Rattle.std.specs.FinMap as map
use Rattle.ordered.specs.Ordered.{listed}
use Rattle.blk_index.specs.Keys.{keyed_cmp}
use Rattle.blk_index.specs.Inside.Spots.{place_cmp}
use Rattle.blk_index.proofs.Order.{the_next, none_next, other_next}
use Rattle.blk_index.proofs.sorted.Sorted+Place+A.next.Goals as goal

pub returns-in_err-found-clause-none : goal.returns-in_err-found-clause-none
returns-in_err-found-clause-none g c =
    rw c.from_residual.ensures (none_next (map.get c.args.self.now) (listed (keyed_cmp place_cmp) c.order.result.now) c.args.dir c.args.first c.args.last c.is_write-write.result c.is_write-write.ensures c.order.ensures c.in_err-found.ensures.none)

pub returns-then-found-write-clause-some : goal.returns-then-found-write-clause-some
returns-then-found-write-clause-some g c =
    the_next (map.get c.args.self.now) (listed (keyed_cmp place_cmp) c.order.result.now) c.args.dir c.args.first c.args.last c.is_write-write.result c.is_write-write.ensures c.order.ensures
    ((c.in_ok-found.found, c.in_ok-found.field-0-0-1), c.in_ok-found.id) c.in_ok-found.ensures.some c.if-found-write.true

pub returns-else-found-write-clause-none : goal.returns-else-found-write-clause-none
returns-else-found-write-clause-none g c =
    other_next (map.get c.args.self.now) (listed (keyed_cmp place_cmp) c.order.result.now) c.args.dir c.args.first c.args.last c.is_write-write.result c.is_write-write.ensures c.order.ensures
    ((c.in_ok-found.found, c.in_ok-found.field-0-0-1), c.in_ok-found.id) c.in_ok-found.ensures.some c.if-found-write.false
