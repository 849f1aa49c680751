use Rattle.std.proofs.Common.{◌≡◌, ◌<◌, ◌+◌, ◌++◌, ◌∙◌, List, [], ◌∷◌, length, take, ap, sym, subst, arith}
use Rattle.std.proofs.lemmas.List.{take_all}
use Rattle.edd_commands.specs.declared.steps.Step.{Step}
use Rattle.blk_trace.specs.Happened.{Happened}
use Rattle.blk_trace.specs.Depths.{capacity_of}
use Rattle.blk_trace.proofs.More.{rounds_within}
use Rattle.blk_trace.proofs.Room.{longer}
use Rattle.blk_trace.proofs.Gathering.{one_more}
use Rattle.blk_trace.proofs.Changes.{IsReached, reached_start, reached_tick, reached_set, reached_kept, capacity_some}
use Rattle.blk_trace.proofs.trace.depths.steps_of.Goals as goal
use Rattle.blk_trace.proofs.trace.depths.steps_of.Goals.{then-is_tick, else-is_tick+in-Some+in_ok-change, else-is_tick+in_default}

pub loop-event-init : goal.loop-event-init
loop-event-init g c =
    let first : c.push.new.self.items ≡ (let s : Step = record { from = 0; depth = c.depth-depth.result } in s ∷ []) = c.in_ok-push.ensures.items ∙ ap (λ l. l ++ (let s : Step = record { from = 0; depth = c.depth-depth.result } in s ∷ [])) c.new-steps.ensures.items in
    let q : IsReached c.args.setup [] c.push.new.self.items 0 = reached_start c.args.setup c.push.new.self.items c.depth-depth.result first c.depth-depth.ensures.value in
    record { steps_are = q.steps_are; round_is = q.round_is }

pub overflow_add-round : goal.overflow_add-round
overflow_add-round g c =
    let p = one_more c.args.setup c.args.events.now c.loop-event.event-index c.event-item.result c.loop-event-test.true c.event-item.is c.requires in
    let es : List Happened = take c.loop-event.event-index c.args.events.now in
    omega (arith, c.loop-event.invariant.round_is, rounds_within es, p.1.not_too_long, longer es c.event-item.result)

pub overflow_add-from : goal.overflow_add-from
overflow_add-from g c =
    let p = one_more c.args.setup c.args.events.now c.loop-event.event-index c.event-item.result c.loop-event-test.true c.event-item.is c.requires in
    let es : List Happened = take c.loop-event.event-index c.args.events.now in
    omega (arith, c.loop-event.invariant.round_is, rounds_within es, p.1.not_too_long, longer es c.event-item.result)

pub change-requires : goal.change-requires
change-requires g c = subst (λ l. 0 < length l) (sym c.loop-event.invariant.steps_are) (capacity_some c.args.setup (take c.loop-event.event-index c.args.events.now))

pub loop-event-preserved : goal.loop-event-preserved
loop-event-preserved g c =
    let es : List Happened = take c.loop-event.event-index c.args.events.now in
    let zs : List Happened = take (c.loop-event.event-index + 1) c.args.events.now in
    let p = one_more c.args.setup c.args.events.now c.loop-event.event-index c.event-item.result c.loop-event-test.true c.event-item.is c.requires in
    let old : IsReached c.args.setup es c.loop-event.steps.items c.loop-event.round = record { steps_are = c.loop-event.invariant.steps_are; round_is = c.loop-event.invariant.round_is } in
    let e : Happened = c.event-item.result in
    let q : IsReached c.args.setup zs c.if-is_tick.steps.items c.if-is_tick.round = elim c.if-is_tick.branch [
      | then-is_tick w ↦ reached_tick c.args.setup es zs e _ _ _ _ old p.0 (sym c.is_tick.ensures ∙ w.if-is_tick.true) (ap (λ v. v.items) w.steps-is) w.round-is
      | else-is_tick+in-Some+in_ok-change w ↦ reached_set c.args.setup es zs e w.in-Some.depth _ _ _ _ old p.0 (sym w.in-Some.ensures) (ap (λ v. v.items) w.steps-is ∙ w.in_ok-change.ensures) w.round-is
      | else-is_tick+in_default w ↦ reached_kept c.args.setup es zs e _ _ _ _ old p.0 (sym w.in_default.ensures) (sym c.is_tick.ensures ∙ w.if-is_tick.false) (ap (λ v. v.items) w.steps-is) w.round-is
    ] in
    record { steps_are = q.steps_are; round_is = q.round_is }

pub returns : goal.returns
returns g c = c.loop-event.invariant.steps_are ∙ ap (λ l. capacity_of c.args.setup l) (take_all c.loop-event.event-index c.args.events.now c.loop-event-test.false)
