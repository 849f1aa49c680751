use Rattle.std.proofs.Common.{◌≡◌, ◌∙◌, sym, ap, subst, refl, map, arith}
use Rattle.blk_bio.specs.Extents.{Extent, extent_of}
use Rattle.blk_sched.specs.Meaning.{HasCandidate, Joins, StandsAt}
use Rattle.blk_sched.proofs.Joins.{stands}
use Rattle.blk_trace.specs.declared.event.Event.TheVariants.{Join}
use Rattle.blk_trace.specs.Events.{round_of}
use Rattle.blk_trace.specs.Traces.{Traced}
use Rattle.blk_core.specs.State.{CoreState}
use Rattle.blk_core.specs.Inside.Ties.{flight_of}
use Rattle.blk_core.specs.Faults.{CanRelease}
use Rattle.blk_core.proofs.Pushed.{pushed, unbroken, ready_for}
use Rattle.blk_core.proofs.Ties.{join_allowed, tied_join, joins_at}
use Rattle.blk_core.proofs.calls.Core.join.Goals as goal

pub join-requires-clause-stands : goal.join-requires-clause-stands
join-requires-clause-stands g c =
    let has : HasCandidate g.S.Scheduler.policy.serves c.args.hw c.self.inside.trace.setup.limits (extent_of c.args.request) (g.S.Scheduler.meaning c.self.inside.scheduler) c.args.id c.args.side = subst (λ (v : CoreState). HasCandidate g.S.Scheduler.policy.serves c.args.hw v.setup.limits (extent_of c.args.request) v.meaning c.args.id c.args.side) (sym c.self.view_is) c.requires.stands in
    subst (λ (x : Extent). StandsAt g.S.Scheduler.policy.serves c.args.hw x (g.S.Scheduler.meaning c.self.inside.scheduler) c.args.id c.args.side) (sym c.extent-newcomer.ensures.value)
    (stands g.S.Scheduler.policy.serves c.args.hw c.self.inside.trace.setup.limits (extent_of c.args.request) (g.S.Scheduler.meaning c.self.inside.scheduler) c.args.id c.args.side has)

pub add-requires-clause-unbroken : goal.add-requires-clause-unbroken
add-requires-clause-unbroken g c =
    let can : CanRelease (record { setup = c.self.inside.trace.setup; events = c.self.inside.trace.events; meaning = g.S.Scheduler.meaning c.self.inside.scheduler; kept = g.S.Scheduler.kept c.self.inside.scheduler; flights = map flight_of c.self.inside.tags.items; requeued = c.self.inside.requeued }) c.args.request c.args.hw = subst (λ (v : CoreState). CanRelease v c.args.request c.args.hw) (sym c.self.view_is) c.requires.can in
    let has : HasCandidate g.S.Scheduler.policy.serves c.args.hw c.self.inside.trace.setup.limits (extent_of c.args.request) (g.S.Scheduler.meaning c.self.inside.scheduler) c.args.id c.args.side = subst (λ (v : CoreState). HasCandidate g.S.Scheduler.policy.serves c.args.hw v.setup.limits (extent_of c.args.request) v.meaning c.args.id c.args.side) (sym c.self.view_is) c.requires.stands in
    let room = can.room in
    let joins : Joins g.S.Scheduler.policy.serves c.args.hw c.round-now.result c.self.inside.trace.setup.limits (extent_of c.args.request) (g.S.Scheduler.meaning c.self.inside.scheduler) c.args.id c.args.side (g.S.Scheduler.meaning c.join.new.self) = joins_at g.S.Scheduler.policy.serves c.args.hw c.round-now.result c.self.inside.trace.setup.limits c.extent-newcomer.result c.args.request (g.S.Scheduler.meaning c.self.inside.scheduler) (g.S.Scheduler.meaning c.join.new.self) c.args.id c.args.side c.extent-newcomer.ensures.value has c.in-Ok-join.ensures.joined in
    unbroken c.self.inside.trace.setup c.self.inside.trace.events c.prepare_bios.new.trace _ (Join c.args.id c.args.request) c.in-Ok.ensures.ok c.self.invariant.legal
    (join_allowed c.self.inside.trace.setup c.self.inside.trace.events _ _ _ _ _ _ _ _ c.args.request c.args.id c.args.side c.self.invariant c.extent-newcomer.ensures.is_request joins can.once)
    (omega arith)

pub add-requires-clause-prepared : goal.add-requires-clause-prepared
add-requires-clause-prepared g c = ready_for c.self.inside.trace.setup c.self.inside.trace.events c.prepare_bios.new.trace _ (Join c.args.id c.args.request) c.in-Ok.ensures.ok refl

pub invariant_of-self-2 : goal.invariant_of-self-2
invariant_of-self-2 g c =
    let now_is : c.round-now.result ≡ round_of c.self.inside.trace.events = c.round-now.ensures.value ∙ ap (λ (t : Traced). round_of t.events) c.in-Ok.ensures.ok in
    let has : HasCandidate g.S.Scheduler.policy.serves c.args.hw c.self.inside.trace.setup.limits (extent_of c.args.request) (g.S.Scheduler.meaning c.self.inside.scheduler) c.args.id c.args.side = subst (λ (v : CoreState). HasCandidate g.S.Scheduler.policy.serves c.args.hw v.setup.limits (extent_of c.args.request) v.meaning c.args.id c.args.side) (sym c.self.view_is) c.requires.stands in
    tied_join c.self.inside.trace.setup c.add.new.self.setup c.self.inside.trace.events c.add.new.self.events (g.S.Scheduler.meaning c.self.inside.scheduler) (g.S.Scheduler.meaning c.join.new.self) c.self.inside.tags.items c.self.inside.requeued c.self.inside.released g.S.Scheduler.policy.serves c.args.hw c.round-now.result c.args.request c.args.id c.args.side
    (pushed c.self.inside.trace.setup c.self.inside.trace.events c.prepare_bios.new.trace c.add.new.self (Join c.args.id c.args.request) _ _ c.in-Ok.ensures.ok c.add.ensures.added c.add.ensures.legal)
    c.self.invariant now_is c.extent-newcomer.ensures.is_request
    (joins_at g.S.Scheduler.policy.serves c.args.hw c.round-now.result c.self.inside.trace.setup.limits c.extent-newcomer.result c.args.request (g.S.Scheduler.meaning c.self.inside.scheduler) (g.S.Scheduler.meaning c.join.new.self) c.args.id c.args.side c.extent-newcomer.ensures.value has c.in-Ok-join.ensures.joined)
