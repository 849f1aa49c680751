use Rattle.std.proofs.Common.{◌∙◌, length, refl, ap}
use Rattle.std.specs.Vec.{vec_capacity}
use Rattle.blk_layer.proofs.InHand.{more_room, same_seat}
use Rattle.blk_layer.proofs.seats.Worker.make_room.Goals as goal

pub invariant_of-self : goal.invariant_of-self
invariant_of-self g c =
    let own = c.self.inside in
    more_room g.L.Named.setup g.L.Named.queues own.hw own.seat.of_set.depth own.seat.of_set.depth own.seat.tags own.seat.tags own.hands.items (length own.ran.items) (length c.reserve.new.self.items) (vec_capacity own.ran) (vec_capacity c.reserve.new.self) own.share.parts own.share.amount c.self.invariant refl refl (ap length c.reserve.ensures.items) c.reserve.ensures.capacity

pub returns : goal.returns
returns g c =
    let own = c.self.inside in
    same_seat own.seat.of_set own.seat.of_set own.hw own.seat.tags own.seat.tags own.hands.items own.ran.items c.reserve.new.self.items refl refl c.reserve.ensures.items ∙ c.self.view_is
