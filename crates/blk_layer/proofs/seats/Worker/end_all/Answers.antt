use Rattle.std.proofs.Common.{◌≡◌, arith}
use Rattle.blk_layer.specs.declared.serving.Ran.TheVariants.{Busy}
use Rattle.blk_layer.proofs.Taken.{does_more, serves_on, serves_first_or_none, requeues_or_not}
use Rattle.blk_layer.proofs.seats.Worker.end_all.Goals as goal

pub loop-preserved : goal.loop-preserved
loop-preserved g c =
    does_more c.loop.counter c.args.batch.now c.args.self.now c.loop.batch c.loop.self c.end_first.new.batch c.end_first.new.self c.loop.invariant c.if-not-end_first.ensures.ended

pub returns-then-was_busy-clause-serves : goal.returns-then-was_busy-clause-serves
returns-then-was_busy-clause-serves g c =
    let end = c.end_first-then-was_busy in
    serves_on c.args.batch.now c.args.self.now c.loop.batch c.loop.self end.new.batch end.new.self c.loop.invariant.serves
    (serves_first_or_none end.result Busy c.loop.batch c.loop.self end.new.batch end.new.self end.ensures.ended end.ensures.same)

pub returns-then-was_busy-clause-ended : goal.returns-then-was_busy-clause-ended
returns-then-was_busy-clause-ended g c =
    let end = c.end_first-then-was_busy in
    let all : c.loop.counter ≡ c.args.ran = omega (arith, c.loop-test.false, c.loop.auto.counter-end) in
    requeues_or_not end.result c.loop.counter c.args.ran c.args.batch.now c.args.self.now c.loop.batch c.loop.self end.new.batch end.new.self all c.loop.invariant end.ensures.ended
