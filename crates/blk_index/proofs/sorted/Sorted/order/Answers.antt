use Rattle.std.proofs.Common.{subst}
use Rattle.std.specs.FinMap as map
use Rattle.ordered.specs.Ordered.{listed}
use Rattle.blk_sched.specs.Meaning.{Pending}
use Rattle.blk_index.specs.Keys.{keyed_cmp, AreKeyed}
use Rattle.blk_index.proofs.sorted.Sorted.order.Goals as goal

pub returns : goal.returns
returns g c = subst (λ (m : Pending). AreKeyed g.K.Ord.cmp g.K.Key.key_of (map.get m) (listed (keyed_cmp g.K.Ord.cmp) c.self.inside.order)) c.self.view_is c.self.invariant
