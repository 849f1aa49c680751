use Rattle.std.proofs.Common.{◌∷◌, [], ap, arith, length, length-append}
use Rattle.blk_layer.proofs.Taken.{takes_more}
use Rattle.blk_layer.proofs.seats.Worker.take_some.Goals as goal

pub loop-preserved : goal.loop-preserved
loop-preserved g c = (
  takes_more c.args.batch.now c.args.self.now c.loop.batch c.loop.self c.in-Ok.issued.tag c.in-Ok.issued.command c.push.new.self c.next.new.self c.loop.invariant.0 c.in-Ok.ensures.issued c.push.ensures,
  omega (arith, ap length c.push.ensures, length-append c.loop.batch (c.in-Ok.issued.tag ∷ []), c.loop.invariant.1),
)
