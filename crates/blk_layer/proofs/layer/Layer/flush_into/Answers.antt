use Rattle.std.proofs.Common.{◌∙◌, refl, arith}
use Rattle.blk_layer.proofs.Plugged.{none_put, put_on}
use Rattle.blk_layer.proofs.layer.Layer.flush_into.Goals as goal

pub loop-queue-init : goal.loop-queue-init
loop-queue-init g c = record {
  moved = none_put c.args.queue.now c.args.submitter.now c.args.plug.now;
  counted = refl;
  limits = refl;
}

pub loop-queue-preserved : goal.loop-queue-preserved
loop-queue-preserved g c = record {
  moved = put_on c.args.queue.now c.args.submitter.now c.args.plug.now c.loop-queue.queue c.loop-queue.submitter c.loop-queue.plug c.flush_first.new.queue c.flush_first.new.submitter c.flush_first.new.plug c.loop-queue.invariant.moved c.flush_first.ensures.moved;
  counted = omega (arith, c.flush_first.ensures.counted, c.loop-queue.invariant.counted);
  limits = c.flush_first.ensures.limits ∙ c.loop-queue.invariant.limits;
}
