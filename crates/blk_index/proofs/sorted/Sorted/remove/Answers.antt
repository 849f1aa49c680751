use Rattle.std.proofs.Common.{sym, ◌∙◌}
use Rattle.ordered.specs.Ordered.{listed}
use Rattle.blk_index.specs.Keys.{keyed_cmp}
use Rattle.blk_index.proofs.Keyed.{absent_key, taken_key}
use Rattle.blk_index.proofs.sorted.Sorted.remove.Goals as goal

pub invariant_of-self : goal.invariant_of-self
invariant_of-self g c = absent_key g.K.Ord.cmp g.met.K.Ord.total g.K.Key.key_of c.self.inside.index c.remove.new.self c.args.id (listed (keyed_cmp g.K.Ord.cmp) c.self.inside.order) c.self.invariant (sym c.remove.ensures.value ∙ c.in_default.is) c.remove.ensures.removed

pub invariant_of-self-2 : goal.invariant_of-self-2
invariant_of-self-2 g c =
    taken_key g.K.Ord.cmp g.met.K.Ord.total g.K.Key.key_of c.self.inside.index c.remove.new.self c.args.id c.in-Some.queued c.of.result (listed (keyed_cmp g.K.Ord.cmp) c.self.inside.order) (listed (keyed_cmp g.K.Ord.cmp) c.take.new.self)
    c.self.invariant (sym c.remove.ensures.value ∙ c.in-Some.is) c.of.ensures c.take.ensures c.remove.ensures.removed
