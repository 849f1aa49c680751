use Rattle.std.proofs.Common.{◌≡◌, ◌+◌, Some, length, sym, ap, subst, arith}
use Rattle.std.specs.Prelude.{slice_get}
use Rattle.std.specs.Vec.{vec_capacity}
use Rattle.blk_tags.specs.Tags.{Seat as TagSeat}
use Rattle.blk_layer.specs.Seats.{WorkerSeat}
use Rattle.blk_layer.proofs.InHand.{one_less, tag_held, one_fewer, same_part}
use Rattle.blk_layer.proofs.layer.Layer.done.Goals as goal

pub push_reserved-requires : goal.push_reserved-requires
push_reserved-requires g c =
    let own = c.worker.inside in
    let held : slice_get own.hands.items c.args.tag ≡ Some (Some c.in-Some.command) = subst (λ (s : WorkerSeat). slice_get s.hands c.args.tag ≡ Some (Some c.in-Some.command)) (sym c.worker.view_is) c.in-Some.ensures.some in
    omega (arith, one_less own.hands.items c.args.tag c.in-Some.command held, c.worker.invariant.room_left, own.ran.ok.0)

pub give-requires-clause-holds : goal.give-requires-clause-holds
give-requires-clause-holds g c =
    let own = c.worker.inside in
    let held : slice_get own.hands.items c.args.tag ≡ Some (Some c.in-Some.command) = subst (λ (s : WorkerSeat). slice_get s.hands c.args.tag ≡ Some (Some c.in-Some.command)) (sym c.worker.view_is) c.in-Some.ensures.some in
    tag_held own.hands.items own.seat.tags c.args.tag c.in-Some.command c.worker.invariant.marks held

pub invariant_of-worker : goal.invariant_of-worker
invariant_of-worker g c =
    let own = c.worker.inside in
    same_part g.L.Named.setup g.L.Named.queues own.hw own.seat.of_set.depth own.seat.tags own.hands.items (length own.ran.items) (vec_capacity own.ran) own.share.parts c.done.new.share.parts own.share.amount c.done.new.share.amount c.worker.invariant c.done.ensures.parts c.in_err-done.ensures.same.1

pub invariant_of-worker-2 : goal.invariant_of-worker-2
invariant_of-worker-2 g c =
    let own = c.worker.inside in
    let held : slice_get own.hands.items c.args.tag ≡ Some (Some c.in-Some.command) = subst (λ (s : WorkerSeat). slice_get s.hands c.args.tag ≡ Some (Some c.in-Some.command)) (sym c.worker.view_is) c.in-Some.ensures.some in
    let gave = c.give.ensures in
    let put = c.push_reserved in
    let more : length put.new.self.items ≡ length own.ran.items + 1 = omega (arith, put.ensures.len, own.ran.ok.0, put.new.self.ok.0) in
    let sum : c.done.new.share.amount ≡ length put.new.self.items = omega (arith, c.in_ok-done.ensures.amount, c.worker.invariant.counted, more) in
    one_fewer g.L.Named.setup g.L.Named.queues own.hw own.seat.of_set.depth c.give.new.seat.of_set.depth own.seat.tags c.give.new.seat.tags own.hands.items (length own.ran.items) (length put.new.self.items) (vec_capacity own.ran) (vec_capacity put.new.self) own.share.parts c.done.new.share.parts own.share.amount c.done.new.share.amount c.from.result c.args.tag c.in-Some.command c.worker.invariant (ap (λ (s : TagSeat). s.of_set.depth) gave) held (ap (λ (s : TagSeat). s.tags) gave) c.from.ensures (omega (arith, more)) put.ensures.capacity c.done.ensures.parts sum
