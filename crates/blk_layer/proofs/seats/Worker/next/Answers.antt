use Rattle.std.proofs.Common.{◌∙◌, ◌+◌, ◌≤◌, Some, length, vec_len, sym, ap, subst, arith}
use Rattle.std.specs.Prelude.{slice_set}
use Rattle.std.specs.Vec.{vec_capacity}
use Rattle.blk_trace.proofs.Keeping.{on_ok}
use Rattle.blk_tags.specs.Tags.{Set}
use Rattle.blk_layer.specs.Seats.{WorkerSeat}
use Rattle.blk_layer.specs.Serving.{TakesInHand}
use Rattle.blk_layer.proofs.InHand.{one_more, takes}
use Rattle.blk_layer.proofs.seats.Worker.next.Goals as goal

pub invariant_of-self-in-Ok : goal.invariant_of-self-in-Ok
invariant_of-self-in-Ok g c =
    let own = c.self.inside in
    let took = c.in-Ok.ensures.taken in
    let room : vec_len c.reserve.new.self + c.len.result ≤ vec_capacity c.reserve.new.self = on_ok c.reserve.result (vec_len c.reserve.new.self + c.len.result ≤ vec_capacity c.reserve.new.self) (sym c.is_err.ensures.value ∙ c.if-is_err.false) c.reserve.ensures.ok in
    let enough : length c.reserve.new.self.items + length own.hands.items ≤ vec_capacity c.reserve.new.self = omega (arith, room, c.len.ensures) in
    one_more g.L.Named.setup g.L.Named.queues own.hw own.seat.of_set.depth c.issue_next.new.seat.of_set.depth own.seat.tags c.issue_next.new.seat.tags own.hands.items (length own.ran.items) (length c.reserve.new.self.items) (vec_capacity own.ran) (vec_capacity c.reserve.new.self) own.share.parts own.share.amount c.from.result c.in-Ok.issued.tag c.in-Ok.issued.command c.self.invariant (ap (λ (s : Set). s.depth) took.same_set) (ap length c.reserve.ensures.items) enough took.below took.unheld took.taken c.from.ensures

pub returns-in-Ok-clause-issued : goal.returns-in-Ok-clause-issued
returns-in-Ok-clause-issued g c =
    let own = c.self.inside in
    let took = c.in-Ok.ensures.taken in
    let new : WorkerSeat = record { tag_set = c.issue_next.new.seat.of_set; hw = own.hw; tags = c.issue_next.new.seat.tags; hands = slice_set own.hands.items c.from.result (Some c.in-Ok.issued.command); ran = c.reserve.new.self.items } in
    subst (λ (old : WorkerSeat). TakesInHand old c.in-Ok.issued.tag c.in-Ok.issued.command new) c.self.view_is
    (takes own.seat.of_set c.issue_next.new.seat.of_set own.hw own.seat.tags c.issue_next.new.seat.tags own.hands.items own.ran.items c.reserve.new.self.items c.from.result c.in-Ok.issued.tag c.in-Ok.issued.command took.same_set took.taken c.reserve.ensures.items c.from.ensures c.self.invariant.marks c.self.invariant.places took.below took.unheld)
