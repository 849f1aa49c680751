use Rattle.ordered.specs.Ordered.{listed}
use Rattle.blk_index.specs.Keys.{keyed_cmp}
use Rattle.blk_index.proofs.Keyed.{no_keys}
use Rattle.blk_index.proofs.sorted.Sorted.new.Goals as goal

pub invariant_of-result : goal.invariant_of-result
invariant_of-result g c = no_keys g.K.Ord.cmp g.met.K.Ord.total g.K.Key.key_of c.in_ok-new.field-0 (listed (keyed_cmp g.K.Ord.cmp) c.new-2.result) c.in_ok-new.ensures c.new-2.ensures
