use Rattle.std.proofs.Common.{◌≡◌, ap, ◌∙◌, None, refl}
use Rattle.std.specs.FinMap as map
use Rattle.ordered.specs.Ordered.{listed}
use Rattle.blk_sched.specs.Meaning.{Pending}
use Rattle.blk_index.specs.Keys.{keyed_cmp}
use Rattle.blk_index.proofs.Keyed.{has_key, entered_key, undone_key, kept_key}
use Rattle.blk_index.proofs.sorted.Sorted.insert.Goals as goal

pub invariant_of-self-in-Ok : goal.invariant_of-self-in-Ok
invariant_of-self-in-Ok g c =
    let none : map.get c.self.inside.index c.args.queued.id ≡ None = ap (λ (m : Pending). map.get m c.args.queued.id) c.self.view_is ∙ c.requires in
    entered_key g.K.Ord.cmp g.met.K.Ord.total g.K.Key.key_of c.self.inside.index c.insert.new.self c.args.queued c.of.result (listed (keyed_cmp g.K.Ord.cmp) c.self.inside.order) (listed (keyed_cmp g.K.Ord.cmp) c.put.new.self)
    c.self.invariant none c.of.ensures c.in_ok-put.ensures.ok c.in-Ok.ensures.ok

pub invariant_of-self-in-Err : goal.invariant_of-self-in-Err
invariant_of-self-in-Err g c =
    let none : map.get c.self.inside.index c.args.queued.id ≡ None = ap (λ (m : Pending). map.get m c.args.queued.id) c.self.view_is ∙ c.requires in
    undone_key g.K.Ord.cmp g.met.K.Ord.total g.K.Key.key_of c.self.inside.index c.insert.new.self c.args.queued.id c.of.result (listed (keyed_cmp g.K.Ord.cmp) c.self.inside.order) (listed (keyed_cmp g.K.Ord.cmp) c.put.new.self) (listed (keyed_cmp g.K.Ord.cmp) c.take.new.self)
    c.self.invariant (ap (has_key g.K.Ord.cmp g.K.Key.key_of c.of.result) none) c.in_ok-put.ensures.ok c.take.ensures c.in-Err.ensures.same

pub invariant_of-self : goal.invariant_of-self
invariant_of-self g c = kept_key g.K.Ord.cmp g.met.K.Ord.total g.K.Key.key_of c.self.inside.index c.self.inside.index (listed (keyed_cmp g.K.Ord.cmp) c.self.inside.order) (listed (keyed_cmp g.K.Ord.cmp) c.put.new.self) c.self.invariant refl c.in_err-put.ensures.same
