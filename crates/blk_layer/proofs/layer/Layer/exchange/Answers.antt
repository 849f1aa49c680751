use Rattle.std.proofs.Common.{subst}
use Rattle.blk_layer.specs.Seats.{WorkerSeat}
use Rattle.blk_layer.specs.Inside.Serving.{Exchanges, Serves}
use Rattle.blk_layer.proofs.Taken.{always, exchanged, serves_on}
use Rattle.blk_layer.proofs.layer.Layer.exchange.Goals as goal

pub returns-clause-serves : goal.returns-clause-serves
returns-clause-serves g c =
    let end = c.end_all.new in
    let took = c.take_some.new in
    subst (λ (s : WorkerSeat). Serves c.args.batch.now s took.batch took.self) c.make_room.ensures
    (serves_on c.args.batch.now c.make_room.new.self end.batch end.self took.batch took.self c.end_all.ensures.serves c.take_some.ensures.serves)

pub returns-clause-exchanged : goal.returns-clause-exchanged
returns-clause-exchanged g c =
    let end = c.end_all.new in
    let took = c.take_some.new in
    let more = c.take_some.ensures.taken in
    let now : Exchanges c.args.ran c.args.batch.now c.args.worker.now took.batch took.self =
    subst (λ (s : WorkerSeat). Exchanges c.args.ran c.args.batch.now s took.batch took.self) c.make_room.ensures
    (exchanged c.args.ran c.args.batch.now c.make_room.new.self end.batch end.self more.0 took.batch took.self c.if-not-end_all.ensures.ended more.1 c.take_some.ensures.ran) in
    always c.take_some.result (Exchanges c.args.ran c.args.batch.now c.args.worker.now took.batch took.self) now
