use Rattle.std.proofs.Common.{◌≡◌, ◌∙◌, ◌+◌, ◌<◌, ◌≤◌, Some, length, vec_len, refl, sym, ap, subst, arith}
use Rattle.std.specs.Prelude.{slice_set}
use Rattle.std.specs.Vec.{vec_capacity}
use Rattle.blk_trace.proofs.Keeping.{on_ok}
use Rattle.blk_tags.specs.Tags.{Set, Seat as TagSeat}
use Rattle.blk_layer.specs.Seats.{WorkerSeat, LayerShape}
use Rattle.blk_layer.specs.Serving.{TakesInHand}
use Rattle.blk_layer.proofs.InHand.{given_back, more_room, same_seat, one_more, takes}
use Rattle.blk_layer.proofs.layer.Layer.issue.Goals as goal

pub returns-in_default-clause-same : goal.returns-in_default-clause-same
returns-in_default-clause-same g c =
    let own = c.worker.inside in
    let stays = c.in_default.ensures.none in
    same_seat own.seat.of_set c.get.new.seat.of_set own.hw own.seat.tags c.get.new.seat.tags own.hands.items own.ran.items own.ran.items (ap (λ (s : TagSeat). s.of_set) stays) (ap (λ (s : TagSeat). s.tags) stays) refl ∙ c.worker.view_is

pub give-requires-clause-of_set : goal.give-requires-clause-of_set
give-requires-clause-of_set g c =
    ap (λ (s : TagSeat). s.of_set) c.in-Some.ensures.some ∙ ap (λ (s : WorkerSeat). s.tag_set) c.worker.view_is ∙ c.requires ∙ sym (ap (λ (l : LayerShape). l.tag_set) c.self.view_is)

pub invariant_of-worker-then-is_err : goal.invariant_of-worker-then-is_err
invariant_of-worker-then-is_err g c =
    let back = given_back c.worker.inside.seat c.get.new.seat c.give.new.seat c.in-Some.tag (Some c.in-Some.tag) c.get.new.seat.last c.in-Some.ensures.some c.give.ensures c.in-Some.ensures.free in
    let own = c.worker.inside in
    more_room g.L.Named.setup g.L.Named.queues own.hw own.seat.of_set.depth c.give.new.seat.of_set.depth own.seat.tags c.give.new.seat.tags own.hands.items (length own.ran.items) (length c.reserve.new.self.items) (vec_capacity own.ran) (vec_capacity c.reserve.new.self) own.share.parts own.share.amount c.worker.invariant (ap (λ (s : Set). s.depth) back.0) back.1 (ap length c.reserve.ensures.items) c.reserve.ensures.capacity

pub returns-then-is_err-clause-same : goal.returns-then-is_err-clause-same
returns-then-is_err-clause-same g c =
    let back = given_back c.worker.inside.seat c.get.new.seat c.give.new.seat c.in-Some.tag (Some c.in-Some.tag) c.get.new.seat.last c.in-Some.ensures.some c.give.ensures c.in-Some.ensures.free in
    let own = c.worker.inside in
    same_seat own.seat.of_set c.give.new.seat.of_set own.hw own.seat.tags c.give.new.seat.tags own.hands.items own.ran.items c.reserve.new.self.items back.0 back.1 c.reserve.ensures.items ∙ c.worker.view_is

pub index_mut-requires : goal.index_mut-requires
index_mut-requires g c =
    let own = c.worker.inside in
    let set : own.seat.of_set ≡ c.self.inside.tags = ap (λ (s : WorkerSeat). s.tag_set) c.worker.view_is ∙ c.requires ∙ sym (ap (λ (l : LayerShape). l.tag_set) c.self.view_is) in
    let below : c.in-Some.tag < own.seat.of_set.depth = subst (λ (s : Set). c.in-Some.tag < s.depth) (sym set) c.in-Some.ensures.below in
    omega (arith, below, c.from.ensures, c.worker.invariant.places)

pub invariant_of-worker-in-Ok-Some : goal.invariant_of-worker-in-Ok-Some
invariant_of-worker-in-Ok-Some g c =
    let own = c.worker.inside in
    let got = c.in-Some.ensures.some in
    let set : own.seat.of_set ≡ c.self.inside.tags = ap (λ (s : WorkerSeat). s.tag_set) c.worker.view_is ∙ c.requires ∙ sym (ap (λ (l : LayerShape). l.tag_set) c.self.view_is) in
    let below : c.in-Some.tag < own.seat.of_set.depth = subst (λ (s : Set). c.in-Some.tag < s.depth) (sym set) c.in-Some.ensures.below in
    let room : vec_len c.reserve.new.self + c.len.result ≤ vec_capacity c.reserve.new.self = on_ok c.reserve.result (vec_len c.reserve.new.self + c.len.result ≤ vec_capacity c.reserve.new.self) (sym c.is_err.ensures.value ∙ c.if-is_err.false) c.reserve.ensures.ok in
    let enough : length c.reserve.new.self.items + length own.hands.items ≤ vec_capacity c.reserve.new.self = omega (arith, room, c.len.ensures) in
    one_more g.L.Named.setup g.L.Named.queues own.hw own.seat.of_set.depth c.get.new.seat.of_set.depth own.seat.tags c.get.new.seat.tags own.hands.items (length own.ran.items) (length c.reserve.new.self.items) (vec_capacity own.ran) (vec_capacity c.reserve.new.self) own.share.parts own.share.amount c.from.result c.in-Some.tag c.in-Ok-Some.command c.worker.invariant (ap (λ (s : TagSeat). s.of_set.depth) got) (ap length c.reserve.ensures.items) enough below c.in-Some.ensures.free (ap (λ (s : TagSeat). s.tags) got) c.from.ensures

pub give-requires-in-Err-clause-of_set : goal.give-requires-in-Err-clause-of_set
give-requires-in-Err-clause-of_set g c =
    ap (λ (s : TagSeat). s.of_set) c.in-Some.ensures.some ∙ ap (λ (s : WorkerSeat). s.tag_set) c.worker.view_is ∙ c.requires ∙ sym (ap (λ (l : LayerShape). l.tag_set) c.self.view_is)

pub invariant_of-worker-in-Err : goal.invariant_of-worker-in-Err
invariant_of-worker-in-Err g c =
    let back = given_back c.worker.inside.seat c.get.new.seat c.give-in-Err.new.seat c.in-Some.tag (Some c.in-Some.tag) c.get.new.seat.last c.in-Some.ensures.some c.give-in-Err.ensures c.in-Some.ensures.free in
    let own = c.worker.inside in
    more_room g.L.Named.setup g.L.Named.queues own.hw own.seat.of_set.depth c.give-in-Err.new.seat.of_set.depth own.seat.tags c.give-in-Err.new.seat.tags own.hands.items (length own.ran.items) (length c.reserve.new.self.items) (vec_capacity own.ran) (vec_capacity c.reserve.new.self) own.share.parts own.share.amount c.worker.invariant (ap (λ (s : Set). s.depth) back.0) back.1 (ap length c.reserve.ensures.items) c.reserve.ensures.capacity

pub returns-in-Ok-Some-clause-issued : goal.returns-in-Ok-Some-clause-issued
returns-in-Ok-Some-clause-issued g c =
    let own = c.worker.inside in
    let got = c.in-Some.ensures.some in
    let set : own.seat.of_set ≡ c.self.inside.tags = ap (λ (s : WorkerSeat). s.tag_set) c.worker.view_is ∙ c.requires ∙ sym (ap (λ (l : LayerShape). l.tag_set) c.self.view_is) in
    let below : c.in-Some.tag < own.seat.of_set.depth = subst (λ (s : Set). c.in-Some.tag < s.depth) (sym set) c.in-Some.ensures.below in
    let new : WorkerSeat = record { tag_set = c.get.new.seat.of_set; hw = own.hw; tags = c.get.new.seat.tags; hands = slice_set own.hands.items c.from.result (Some c.in-Ok-Some.command); ran = c.reserve.new.self.items } in
    subst (λ (old : WorkerSeat). TakesInHand old c.in-Some.tag c.in-Ok-Some.command new) c.worker.view_is
    (takes own.seat.of_set c.get.new.seat.of_set own.hw own.seat.tags c.get.new.seat.tags own.hands.items own.ran.items c.reserve.new.self.items c.from.result c.in-Some.tag c.in-Ok-Some.command (ap (λ (s : TagSeat). s.of_set) got) (ap (λ (s : TagSeat). s.tags) got) c.reserve.ensures.items c.from.ensures c.worker.invariant.marks c.worker.invariant.places below c.in-Some.ensures.free)

pub returns-in-Err-clause-same : goal.returns-in-Err-clause-same
returns-in-Err-clause-same g c =
    let back = given_back c.worker.inside.seat c.get.new.seat c.give-in-Err.new.seat c.in-Some.tag (Some c.in-Some.tag) c.get.new.seat.last c.in-Some.ensures.some c.give-in-Err.ensures c.in-Some.ensures.free in
    let own = c.worker.inside in
    same_seat own.seat.of_set c.give-in-Err.new.seat.of_set own.hw own.seat.tags c.give-in-Err.new.seat.tags own.hands.items own.ran.items c.reserve.new.self.items back.0 back.1 c.reserve.ensures.items ∙ c.worker.view_is

pub give-requires-in-Ok-None-clause-of_set : goal.give-requires-in-Ok-None-clause-of_set
give-requires-in-Ok-None-clause-of_set g c =
    ap (λ (s : TagSeat). s.of_set) c.in-Some.ensures.some ∙ ap (λ (s : WorkerSeat). s.tag_set) c.worker.view_is ∙ c.requires ∙ sym (ap (λ (l : LayerShape). l.tag_set) c.self.view_is)

pub invariant_of-worker-in-Ok-None : goal.invariant_of-worker-in-Ok-None
invariant_of-worker-in-Ok-None g c =
    let back = given_back c.worker.inside.seat c.get.new.seat c.give-in-Ok-None.new.seat c.in-Some.tag (Some c.in-Some.tag) c.get.new.seat.last c.in-Some.ensures.some c.give-in-Ok-None.ensures c.in-Some.ensures.free in
    let own = c.worker.inside in
    more_room g.L.Named.setup g.L.Named.queues own.hw own.seat.of_set.depth c.give-in-Ok-None.new.seat.of_set.depth own.seat.tags c.give-in-Ok-None.new.seat.tags own.hands.items (length own.ran.items) (length c.reserve.new.self.items) (vec_capacity own.ran) (vec_capacity c.reserve.new.self) own.share.parts own.share.amount c.worker.invariant (ap (λ (s : Set). s.depth) back.0) back.1 (ap length c.reserve.ensures.items) c.reserve.ensures.capacity

pub returns-in-Ok-None-clause-issued : goal.returns-in-Ok-None-clause-issued
returns-in-Ok-None-clause-issued g c =
    let back = given_back c.worker.inside.seat c.get.new.seat c.give-in-Ok-None.new.seat c.in-Some.tag (Some c.in-Some.tag) c.get.new.seat.last c.in-Some.ensures.some c.give-in-Ok-None.ensures c.in-Some.ensures.free in
    let own = c.worker.inside in
    same_seat own.seat.of_set c.give-in-Ok-None.new.seat.of_set own.hw own.seat.tags c.give-in-Ok-None.new.seat.tags own.hands.items own.ran.items c.reserve.new.self.items back.0 back.1 c.reserve.ensures.items ∙ c.worker.view_is
