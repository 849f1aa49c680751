use Rattle.std.proofs.Common.{ap, sym, ◌∙◌, refl}
use Rattle.std.specs.Ordering.{is_eq}
use Rattle.ordered.specs.Ordered.{listed}
use Rattle.blk_index.specs.Keys.{keyed_cmp}
use Rattle.blk_index.proofs.Keyed.{stayed_key, kept_key, moved_key, refused_key}
use Rattle.blk_index.proofs.sorted.Sorted.join_at.Goals as goal

pub invariant_of-self : goal.invariant_of-self
invariant_of-self g c =
    stayed_key g.K.Ord.cmp g.met.K.Ord.total g.K.Key.key_of c.self.inside.index c.join_at.new.self c.args.id c.args.now c.args.side c.args.newcomer.now c.in-Some.queued.now c.of-before.result c.of-after.result (listed (keyed_cmp g.K.Ord.cmp) c.self.inside.order)
    c.self.invariant c.in-Some.ensures.value c.of-before.ensures (c.of-after.ensures ∙ ap g.K.Key.key_of c.joined.ensures)
    c.join_at.result (ap is_eq (sym c.cmp.ensures) ∙ sym c.if-is_eq.ensures) c.join_at.ensures.joined c.join_at.ensures.same

pub invariant_of-self-in_err-put : goal.invariant_of-self-in_err-put
invariant_of-self-in_err-put g c = kept_key g.K.Ord.cmp g.met.K.Ord.total g.K.Key.key_of c.self.inside.index c.self.inside.index (listed (keyed_cmp g.K.Ord.cmp) c.self.inside.order) (listed (keyed_cmp g.K.Ord.cmp) c.put.new.self) c.self.invariant refl c.in_err-put.ensures.same

pub invariant_of-self-in-Ok : goal.invariant_of-self-in-Ok
invariant_of-self-in-Ok g c =
    moved_key g.K.Ord.cmp g.met.K.Ord.total g.K.Key.key_of c.self.inside.index c.join_at-2.new.self c.args.id c.args.now c.args.side c.args.newcomer.now c.in-Some.queued.now c.of-before.result c.of-after.result (listed (keyed_cmp g.K.Ord.cmp) c.self.inside.order)
    c.self.invariant c.in-Some.ensures.value c.of-before.ensures (c.of-after.ensures ∙ ap g.K.Key.key_of c.joined.ensures)
    (listed (keyed_cmp g.K.Ord.cmp) c.put.new.self) (listed (keyed_cmp g.K.Ord.cmp) c.take.new.self) (ap is_eq (sym c.cmp.ensures) ∙ sym c.if-is_eq.ensures) c.in_ok-put.ensures.ok c.take.ensures c.in-Ok.ensures.joined

pub invariant_of-self-in-Err : goal.invariant_of-self-in-Err
invariant_of-self-in-Err g c =
    refused_key g.K.Ord.cmp g.met.K.Ord.total g.K.Key.key_of c.self.inside.index c.join_at-2.new.self c.args.id c.args.now c.args.side c.args.newcomer.now c.in-Some.queued.now c.of-before.result c.of-after.result (listed (keyed_cmp g.K.Ord.cmp) c.self.inside.order)
    c.self.invariant c.in-Some.ensures.value c.of-before.ensures (c.of-after.ensures ∙ ap g.K.Key.key_of c.joined.ensures)
    (listed (keyed_cmp g.K.Ord.cmp) c.put.new.self) (listed (keyed_cmp g.K.Ord.cmp) c.take-in-Err.new.self) (ap is_eq (sym c.cmp.ensures) ∙ sym c.if-is_eq.ensures) c.in_ok-put.ensures.ok c.take-in-Err.ensures c.in-Err.ensures.same
