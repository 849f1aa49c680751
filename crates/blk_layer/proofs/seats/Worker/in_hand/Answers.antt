use Rattle.std.proofs.Common.{◌≡◌, ◌∙◌, ◌≤◌, ◌<◌, Some, length, sym, ap, subst, arith}
use Rattle.std.specs.Prelude.{Contains, IfSome, IfNone, slice_get, slice_index_or}
use Rattle.blk_layer.specs.Seats.{WorkerSeat}
use Rattle.blk_layer.proofs.InHand.{read_at, hand_some, hand_none, hand_past}
use Rattle.blk_layer.proofs.seats.Worker.in_hand.Goals as goal

pub returns-then-from-len-clause-none : goal.returns-then-from-len-clause-none
returns-then-from-len-clause-none g c = λ has.
    let own = c.self.inside in
    let past : length own.hands.items ≤ c.args.tag = omega (arith, c.if-from-len.true, c.from.ensures, c.len.ensures, own.hands.ok.0) in
    hand_past own.hands.items own.seat.tags c.args.tag c.self.invariant.marks past (subst (λ (s : WorkerSeat). Contains s.tags c.args.tag) (sym c.self.view_is) has)

pub returns-clause-some : goal.returns-clause-some
returns-clause-some g c =
    let own = c.self.inside in
    let less : c.args.tag < length own.hands.items = omega (arith, c.if-from-len.false, c.from.ensures, c.len.ensures, own.hands.ok.0) in
    let at : slice_get own.hands.items c.args.tag ≡ Some c.index.result.now = read_at own.hands.items c.args.tag c.index.result.now less (c.index.ensures ∙ ap (λ k. slice_index_or own.hands.items k c.index.result.now) c.from-2.ensures) in
    subst (λ (s : WorkerSeat). IfSome c.index.result.now (λ command. slice_get s.hands c.args.tag ≡ Some (Some command))) c.self.view_is (hand_some own.hands.items c.args.tag c.index.result.now at)

pub returns-clause-none : goal.returns-clause-none
returns-clause-none g c =
    let own = c.self.inside in
    let less : c.args.tag < length own.hands.items = omega (arith, c.if-from-len.false, c.from.ensures, c.len.ensures, own.hands.ok.0) in
    let at : slice_get own.hands.items c.args.tag ≡ Some c.index.result.now = read_at own.hands.items c.args.tag c.index.result.now less (c.index.ensures ∙ ap (λ k. slice_index_or own.hands.items k c.index.result.now) c.from-2.ensures) in
    subst (λ (s : WorkerSeat). IfNone c.index.result.now (¬ Contains s.tags c.args.tag)) c.self.view_is (hand_none own.hands.items own.seat.tags c.args.tag c.index.result.now c.self.invariant.marks at)
