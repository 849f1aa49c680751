use Rattle.std.proofs.Common.{refl}
use Rattle.blk_layer.proofs.Moved.{none_moved}
use Rattle.blk_layer.proofs.layer.Layer.move_all.Goals as goal

pub loop-moved-init : goal.loop-moved-init
loop-moved-init g c =
    none_moved g.S.Scheduler.policy.serves c.args.queue.now c.args.core.now c.args.map.now c.args.queue.now c.args.core.now refl refl c.requires
