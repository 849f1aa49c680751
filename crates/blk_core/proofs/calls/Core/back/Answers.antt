use Rattle.std.proofs.Common.{rules, refl, ℕ, ◌≡◌, ◌∙◌, sym, ap, subst, ◌<◌, ◌≤◌, ◌++◌, ◌∷◌, [], length, map, set, get_or, slice_set}
use Rattle.std.proofs.lemmas.List.{map-set}
use Rattle.blk_bio.specs.declared.bio.Dir.{Dir}
use Rattle.blk_sched.specs.Meaning.{Waiting, Meaning, RequeuesPick, open_of}
use Rattle.blk_queues.specs.Requeued.{requeued_in}
use Rattle.blk_core.specs.declared.tags.TagState.{TagState}
use Rattle.blk_core.specs.declared.tags.TagState.TheVariants.{Free, InFlight, Spent}
use Rattle.blk_core.specs.Inside.Ties.{flight_of, queue_of, IsTied}
use Rattle.blk_trace.specs.declared.event.Event.TheVariants.{Back}
use Rattle.blk_core.proofs.Pushed.{pushed_at_once}
use Rattle.blk_core.proofs.Ties.{open_flight, read_at, beyond, flying_open, not_flying}
use Rattle.blk_core.proofs.Ended.{end_unbroken, tied_back, few_requeued}
use Rattle.blk_core.proofs.Flights.{of_flying, flight_at}
use Rattle.blk_core.proofs.calls.Core.back.Goals as goal

-- what is said of the code's direction is said of the request's
back_by : (old new : Meaning) (d dir : Dir) → d ≡ dir → RequeuesPick d old new → RequeuesPick dir old new
back_by old new d dir is h = subst (λ x. RequeuesPick x old new) is h

pub returns-then-slot-len-clause-fault : goal.returns-then-slot-len-clause-fault
returns-then-slot-len-clause-fault g c =
    let past : length c.self.inside.tags.items ≤ c.args.tag = search rules in
    rw (← c.self.view_is) (beyond c.self.inside.trace.setup c.self.inside.trace.events _ _ _ _ c.args.tag c.self.invariant past)

pub add-requires-clause-unbroken : goal.add-requires-clause-unbroken
add-requires-clause-unbroken g c =
    let lt : c.args.tag < length c.self.inside.tags.items = search rules in
    end_unbroken c.self.inside.trace.setup c.self.inside.trace.events (Back c.args.tag) _ c.self.inside.tags.items c.self.inside.requeued c.self.inside.released c.args.tag c.in-InFlight.hw c.in-InFlight.queued c.self.invariant lt
    (read_at c.self.inside.tags.items c.args.tag c.in-InFlight.hw c.index.result.now c.in-InFlight.queued lt c.index.ensures c.in-InFlight.is) (λ seat. (c.in-InFlight.queued.extent.dir, seat)) refl

pub on_requeue-requires-clause-is_open : goal.on_requeue-requires-clause-is_open
on_requeue-requires-clause-is_open g c =
    let lt : c.args.tag < length c.self.inside.tags.items = search rules in
    let dir_is : c.dir-dir.result ≡ c.in-InFlight.queued.extent.dir = c.dir-dir.ensures in
    subst (λ d. 0 < open_of d (g.S.Scheduler.meaning c.self.inside.scheduler).open_picks) (sym dir_is)
    (open_flight c.self.inside.trace.setup c.self.inside.trace.events _ c.self.inside.tags.items c.self.inside.requeued c.self.inside.released c.args.tag c.in-InFlight.hw c.in-InFlight.queued c.self.invariant lt
    (read_at c.self.inside.tags.items c.args.tag c.in-InFlight.hw c.index.result.now c.in-InFlight.queued lt c.index.ensures c.in-InFlight.is))

pub on_requeue-requires-clause-few : goal.on_requeue-requires-clause-few
on_requeue-requires-clause-few g c =
    let lt : c.args.tag < length c.self.inside.tags.items = search rules in
    few_requeued c.self.inside.trace.setup c.self.inside.trace.events _ c.self.inside.tags.items c.self.inside.requeued c.self.inside.released c.args.tag c.in-InFlight.hw c.in-InFlight.queued c.self.invariant
    (read_at c.self.inside.tags.items c.args.tag c.in-InFlight.hw c.index.result.now c.in-InFlight.queued lt c.index.ensures c.in-InFlight.is)

queue_below : (count hw : ℕ) (s : TagState) (w : Waiting) → s ≡ InFlight hw w → queue_of s < count → hw < count
queue_below count hw s w is h = subst (λ (x : TagState). queue_of x < count) is h

pub invariant_of-self-2 : goal.invariant_of-self-2
invariant_of-self-2 g c =
    let w = c.in-InFlight.queued in
    let lt : c.args.tag < length c.self.inside.tags.items = search rules in
    let at : get_or c.self.inside.tags.items c.args.tag Free ≡ InFlight c.in-InFlight.hw w = read_at c.self.inside.tags.items c.args.tag c.in-InFlight.hw c.index.result.now w lt c.index.ensures c.in-InFlight.is in
    let dir_is : c.dir-dir.result ≡ w.extent.dir = c.dir-dir.ensures in
    let requeue_lists = of_flying (λ hw w. (c.requeue.new.tag ≡ Spent w.extent.dir) × (c.requeue.new.requeue_lists ≡ slice_set c.self.inside.requeued hw (requeued_in c.self.inside.requeued hw ++ w ∷ []))) c.self.inside.tags.items c.args.tag c.in-InFlight.hw c.index_mut.result.now w lt c.index_mut.ensures.value at c.in-Ok.ensures.ok in
    subst (λ s. IsTied c.add.new.self.setup c.add.new.self.events (g.S.Scheduler.meaning c.on_requeue.new.self) (set c.self.inside.tags.items c.args.tag s) c.requeue.new.requeue_lists c.self.inside.released) (sym requeue_lists.0)
    (tied_back c.self.inside.trace.setup c.add.new.self.setup c.self.inside.trace.events c.add.new.self.events (g.S.Scheduler.meaning c.self.inside.scheduler) (g.S.Scheduler.meaning c.on_requeue.new.self) c.self.inside.tags.items c.self.inside.requeued c.requeue.new.requeue_lists c.self.inside.released c.args.tag c.in-InFlight.hw w c.dir-dir.result
    (pushed_at_once c.self.inside.trace c.add.new.self (Back c.args.tag) _ c.add.ensures.added c.add.ensures.legal) c.self.invariant lt at dir_is c.on_requeue.ensures.back requeue_lists.1
    (queue_below c.self.inside.trace.setup.hw c.in-InFlight.hw (get_or c.self.inside.tags.items c.args.tag Free) w at (c.self.invariant.queues c.args.tag)))

pub returns-clause-back : goal.returns-clause-back
returns-clause-back g c =
    let w = c.in-InFlight.queued in
    let lt : c.args.tag < length c.self.inside.tags.items = search rules in
    let at : get_or c.self.inside.tags.items c.args.tag Free ≡ InFlight c.in-InFlight.hw w = read_at c.self.inside.tags.items c.args.tag c.in-InFlight.hw c.index.result.now w lt c.index.ensures c.in-InFlight.is in
    let dir_is : c.dir-dir.result ≡ w.extent.dir = c.dir-dir.ensures in
    let requeue_lists = of_flying (λ hw w. (c.requeue.new.tag ≡ Spent w.extent.dir) × (c.requeue.new.requeue_lists ≡ slice_set c.self.inside.requeued hw (requeued_in c.self.inside.requeued hw ++ w ∷ []))) c.self.inside.tags.items c.args.tag c.in-InFlight.hw c.index_mut.result.now w lt c.index_mut.ensures.value at c.in-Ok.ensures.ok in
    let p = pushed_at_once c.self.inside.trace c.add.new.self (Back c.args.tag) _ c.add.ensures.added c.add.ensures.legal in
    rw (← c.self.view_is) (
      record { hw = c.in-InFlight.hw; request = w },
      flight_at c.self.inside.tags.items c.args.tag c.in-InFlight.hw w lt at,
      c.self.invariant.flown c.args.tag c.in-InFlight.hw w at,
      refl,
      (p.same, p.added),
      back_by (g.S.Scheduler.meaning c.self.inside.scheduler) (g.S.Scheduler.meaning c.on_requeue.new.self) c.dir-dir.result w.extent.dir dir_is c.on_requeue.ensures.back,
      c.on_requeue.ensures.kept,
      map-set flight_of c.self.inside.tags.items c.args.tag c.requeue.new.tag ∙ ap (λ s. set (map flight_of c.self.inside.tags.items) c.args.tag (flight_of s)) requeue_lists.0,
      requeue_lists.1,
    )

pub returns-in_default-clause-fault : goal.returns-in_default-clause-fault
returns-in_default-clause-fault g c =
    let lt : c.args.tag < length c.self.inside.tags.items = search rules in
    rw (← c.self.view_is) (not_flying c.self.inside.trace.setup c.self.inside.trace.events _ c.self.inside.tags.items c.self.inside.requeued c.self.inside.released c.args.tag c.index.result.now c.self.invariant lt c.index.ensures c.in_default.not-InFlight)

pub returns-in_default-requeue-clause-fault : goal.returns-in_default-requeue-clause-fault
returns-in_default-requeue-clause-fault g c =
    let lt : c.args.tag < length c.self.inside.tags.items = search rules in
    let at : get_or c.self.inside.tags.items c.args.tag Free ≡ InFlight c.in-InFlight.hw c.in-InFlight.queued = read_at c.self.inside.tags.items c.args.tag c.in-InFlight.hw c.index.result.now c.in-InFlight.queued lt c.index.ensures c.in-InFlight.is in
    rw (← c.self.view_is) (flying_open c.self.inside.trace.setup c.self.inside.trace.events _ c.self.inside.tags.items c.self.inside.requeued c.self.inside.released c.args.tag c.in-InFlight.hw c.in-InFlight.queued c.self.invariant at)

pub returns-clause-no_fault : goal.returns-clause-no_fault
returns-clause-no_fault g c =
    let lt : c.args.tag < length c.self.inside.tags.items = search rules in
    let at : get_or c.self.inside.tags.items c.args.tag Free ≡ InFlight c.in-InFlight.hw c.in-InFlight.queued = read_at c.self.inside.tags.items c.args.tag c.in-InFlight.hw c.index.result.now c.in-InFlight.queued lt c.index.ensures c.in-InFlight.is in
    rw (← c.self.view_is) (flying_open c.self.inside.trace.setup c.self.inside.trace.events _ c.self.inside.tags.items c.self.inside.requeued c.self.inside.released c.args.tag c.in-InFlight.hw c.in-InFlight.queued c.self.invariant at)
