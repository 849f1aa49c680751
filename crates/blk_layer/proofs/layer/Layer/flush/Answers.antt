use Rattle.std.proofs.Common.{◌∙◌, ◌<◌, ap, arith, length}
use Rattle.blk_layer.specs.Seats.{LayerShape}
use Rattle.blk_layer.proofs.Mapped.{flushed_mapped}
use Rattle.blk_layer.proofs.layer.Layer.flush.Goals as goal

pub invariant_of-staged : goal.invariant_of-staged
invariant_of-staged g c =
    let staged = c.deref_mut-staged.result.now in
    let queue = c.flush_into.new.queue in
    let seat = c.flush_into.new.submitter in
    let plug = c.flush_into.new.plug in
    let moved = c.flush_into.ensures.moved in
    let low : seat.number < length g.L.Named.map = omega (arith, c.requires.seat, moved.flushes.number, ap (λ (l : LayerShape). length l.map) c.self.view_is, ap length c.self.invariant.4) in
    record {
      limits = c.flush_into.ensures.limits ∙ staged.limits;
      mapped = flushed_mapped g.L.Named.map staged.queue c.args.submitter.now c.args.plug.now queue seat plug moved c.flush_into.ensures.own low staged.mapped;
    }
