use Rattle.std.proofs.Common.{◌≡◌, ◌≤◌, ◌+◌, Some, length, refl, sym, ap, subst, arith}
use Rattle.std.specs.Prelude.{slice_get}
use Rattle.std.specs.Vec.{vec_capacity}
use Rattle.blk_tags.specs.Tags.{Seat as TagSeat}
use Rattle.blk_layer.specs.Seats.{WorkerSeat}
use Rattle.blk_layer.proofs.InHand.{tag_held, one_fewer}
use Rattle.blk_layer.proofs.layer.Layer.back.Goals as goal

pub give-requires-clause-holds : goal.give-requires-clause-holds
give-requires-clause-holds g c =
    let own = c.worker.inside in
    let held : slice_get own.hands.items c.args.tag ≡ Some (Some c.in-Some.command) = subst (λ (s : WorkerSeat). slice_get s.hands c.args.tag ≡ Some (Some c.in-Some.command)) (sym c.worker.view_is) c.in-Some.ensures.some in
    tag_held own.hands.items own.seat.tags c.args.tag c.in-Some.command c.worker.invariant.marks held

pub invariant_of-worker : goal.invariant_of-worker
invariant_of-worker g c =
    let own = c.worker.inside in
    let held : slice_get own.hands.items c.args.tag ≡ Some (Some c.in-Some.command) = subst (λ (s : WorkerSeat). slice_get s.hands c.args.tag ≡ Some (Some c.in-Some.command)) (sym c.worker.view_is) c.in-Some.ensures.some in
    let gave = c.give.ensures in
    let ran = length own.ran.items in
    let few : ran ≤ ran + 1 = omega arith in
    one_fewer g.L.Named.setup g.L.Named.queues own.hw own.seat.of_set.depth c.give.new.seat.of_set.depth own.seat.tags c.give.new.seat.tags own.hands.items ran ran (vec_capacity own.ran) (vec_capacity own.ran) own.share.parts own.share.parts own.share.amount own.share.amount c.from.result c.args.tag c.in-Some.command c.worker.invariant (ap (λ (s : TagSeat). s.of_set.depth) gave) held (ap (λ (s : TagSeat). s.tags) gave) c.from.ensures few refl refl c.worker.invariant.counted
