use Rattle.std.proofs.Common.{ℕ, ◌≡◌, ◌∙◌, ap, List, [], Option, None, sym, subst, refl, ◌<◌, arith, length, map, get_or}
use Rattle.std.proofs.lemmas.List.{map-set}
use Rattle.blk_trace.specs.Setups.{Setup}
use Rattle.blk_trace.specs.Happened.{Happened}
use Rattle.blk_trace.specs.declared.event.Event.TheVariants.{Issue}
use Rattle.blk_trace.specs.Events.{round_of}
use Rattle.blk_trace.specs.Traces.{Traced}
use Rattle.blk_sched.specs.Meaning.{Waiting, Meaning, ServesNothing}
use Rattle.blk_core.proofs.Pushed.{IsPushed, pushed, unbroken, ready_for}
use Rattle.blk_core.proofs.Ties.{free_slot, few_open, open_issue, tag_there}
use Rattle.blk_core.proofs.Sent.{sent_waits, issue_allowed, tied_issue, last_command, sends_at}
use Rattle.blk_sched.specs.Policies.{Choice}
use Rattle.blk_core.specs.State.{Flight, CoreState}
use Rattle.blk_core.specs.declared.tags.TagState.TheVariants.{InFlight}
use Rattle.blk_core.specs.Inside.Ties.{flight_of}
use Rattle.blk_core.specs.Faults.{CanIssue}
use Rattle.blk_core.proofs.calls.Core.issue.Goals as goal

-- a choice of the code's round, and of what is kept then
chosen_at : (chooses : Choice) (kept : List ℕ) (m : Meaning) (hw now round : ℕ) → now ≡ round → chooses kept m hw now None kept → chooses kept m hw round None kept
chosen_at chooses kept m hw now round now_is h = subst (λ n. chooses kept m hw n None kept) now_is h

-- a core of which each part is as it was
same_core : (s s' : Setup) (es es' : List Happened) (m m' : Meaning) (k k' : List ℕ) (f : List (Option Flight)) (h h' : List (List Waiting)) → s ≡ s' → es ≡ es' → m ≡ m' → k ≡ k' → h ≡ h' → ◌≡◌ {A = CoreState} (record { setup = s; events = es; meaning = m; kept = k; flights = f; requeued = h }) (record { setup = s'; events = es'; meaning = m'; kept = k'; flights = f; requeued = h' })
same_core s s' es es' m m' k k' f h h' a b c d e = cc

pub dispatch-requires-clause-few : goal.dispatch-requires-clause-few
dispatch-requires-clause-few g c =
    let can : CanIssue (record { setup = c.self.inside.trace.setup; events = c.self.inside.trace.events; meaning = g.S.Scheduler.meaning c.self.inside.scheduler; kept = g.S.Scheduler.kept c.self.inside.scheduler; flights = map flight_of c.self.inside.tags.items; requeued = c.self.inside.requeued }) c.args.hw c.args.tag = subst (λ (v : CoreState). CanIssue v c.args.hw c.args.tag) (sym c.self.view_is) c.in_default.ensures.none in
    let lt : c.args.tag < length c.self.inside.tags.items = tag_there c.self.inside.trace.setup c.self.inside.trace.events _ c.self.inside.tags.items c.self.inside.requeued c.self.inside.released c.args.tag c.self.invariant can.range in
    few_open c.self.inside.trace.setup c.self.inside.trace.events _ c.self.inside.tags.items c.self.inside.requeued c.self.inside.released c.args.tag c.self.invariant lt
    (free_slot c.self.inside.trace.setup c.self.inside.trace.events _ c.self.inside.tags.items c.self.inside.requeued c.self.inside.released c.args.tag c.self.invariant lt can.free)

pub returns-in_default-dispatch-clause-issued : goal.returns-in_default-dispatch-clause-issued
returns-in_default-dispatch-clause-issued g c =
    let same = c.in_default-dispatch.ensures.same in
    rw (← c.self.view_is) (
      same_core c.prepare.new.trace.setup c.self.inside.trace.setup c.prepare.new.trace.events c.self.inside.trace.events (g.S.Scheduler.meaning c.dispatch.new.scheduler) (g.S.Scheduler.meaning c.self.inside.scheduler) (g.S.Scheduler.kept c.dispatch.new.scheduler) (g.S.Scheduler.kept c.self.inside.scheduler) (map flight_of c.self.inside.tags.items) c.dispatch.new.lists c.self.inside.requeued
          (ap (λ (t : Traced). t.setup) c.in-Ok.ensures.ok) (ap (λ (t : Traced). t.events) c.in-Ok.ensures.ok) same.0 same.1 c.in_default-dispatch.ensures.same_lists,
      c.in_default-dispatch.ensures.none,
      chosen_at g.S.Scheduler.policy.chooses (g.S.Scheduler.kept c.self.inside.scheduler) (g.S.Scheduler.meaning c.self.inside.scheduler) c.args.hw c.round-now.result (round_of c.self.inside.trace.events)
          (c.round-now.ensures.value ∙ ap (λ (t : Traced). round_of t.events) c.in-Ok.ensures.ok) c.in_default-dispatch.ensures.chosen,
      open_issue c.self.inside.trace.setup c.self.inside.trace.events _ c.self.inside.tags.items c.self.inside.requeued c.self.inside.released (ServesNothing g.S.Scheduler.policy.serves c.args.hw (g.S.Scheduler.meaning c.self.inside.scheduler)) c.self.invariant c.in_default-dispatch.ensures.waits,
    )

pub add-requires-clause-unbroken : goal.add-requires-clause-unbroken
add-requires-clause-unbroken g c =
    let can : CanIssue (record { setup = c.self.inside.trace.setup; events = c.self.inside.trace.events; meaning = g.S.Scheduler.meaning c.self.inside.scheduler; kept = g.S.Scheduler.kept c.self.inside.scheduler; flights = map flight_of c.self.inside.tags.items; requeued = c.self.inside.requeued }) c.args.hw c.args.tag = subst (λ (v : CoreState). CanIssue v c.args.hw c.args.tag) (sym c.self.view_is) c.in_default.ensures.none in
    let lt : c.args.tag < length c.self.inside.tags.items = tag_there c.self.inside.trace.setup c.self.inside.trace.events _ c.self.inside.tags.items c.self.inside.requeued c.self.inside.released c.args.tag c.self.invariant can.range in
    let w = c.in-Some-dispatch.queued in
    let sends = sends_at g.S.Scheduler.policy.serves g.S.Scheduler.policy.chooses c.args.hw c.round-now.result (round_of c.self.inside.trace.events) (get_or c.self.inside.requeued c.args.hw []) (g.S.Scheduler.meaning c.self.inside.scheduler) (g.S.Scheduler.meaning c.dispatch.new.scheduler) (g.S.Scheduler.kept c.self.inside.scheduler) (g.S.Scheduler.kept c.dispatch.new.scheduler) c.self.inside.requeued c.dispatch.new.lists w
    (c.round-now.ensures.value ∙ ap (λ (t : Traced). round_of t.events) c.in-Ok.ensures.ok) c.in-Some-dispatch.ensures.some in
    let waits = sent_waits c.self.inside.trace.setup c.self.inside.trace.events _ _ c.self.inside.tags.items c.self.inside.requeued c.dispatch.new.lists c.self.inside.released g.S.Scheduler.policy.serves g.S.Scheduler.policy.chooses _ _ c.args.hw (round_of c.self.inside.trace.events) w (get_or c.self.inside.requeued c.args.hw []) c.self.invariant refl sends in
    unbroken c.self.inside.trace.setup c.self.inside.trace.events c.prepare.new.trace _ (Issue w.id c.args.tag) c.in-Ok.ensures.ok c.self.invariant.legal
    (issue_allowed c.self.inside.trace.setup c.self.inside.trace.events _ c.self.inside.tags.items c.self.inside.requeued c.self.inside.released c.args.tag w.id waits.0 c.self.invariant waits.1 can.range lt
    (free_slot c.self.inside.trace.setup c.self.inside.trace.events _ c.self.inside.tags.items c.self.inside.requeued c.self.inside.released c.args.tag c.self.invariant lt can.free))
    (let room = can.room in omega arith)

pub add-requires-clause-prepared : goal.add-requires-clause-prepared
add-requires-clause-prepared g c = ready_for c.self.inside.trace.setup c.self.inside.trace.events c.prepare.new.trace _ (Issue c.in-Some-dispatch.queued.id c.args.tag) c.in-Ok.ensures.ok tt

pub invariant_of-self-2 : goal.invariant_of-self-2
invariant_of-self-2 g c =
    let can : CanIssue (record { setup = c.self.inside.trace.setup; events = c.self.inside.trace.events; meaning = g.S.Scheduler.meaning c.self.inside.scheduler; kept = g.S.Scheduler.kept c.self.inside.scheduler; flights = map flight_of c.self.inside.tags.items; requeued = c.self.inside.requeued }) c.args.hw c.args.tag = subst (λ (v : CoreState). CanIssue v c.args.hw c.args.tag) (sym c.self.view_is) c.in_default.ensures.none in
    let lt : c.args.tag < length c.self.inside.tags.items = tag_there c.self.inside.trace.setup c.self.inside.trace.events _ c.self.inside.tags.items c.self.inside.requeued c.self.inside.released c.args.tag c.self.invariant can.range in
    let w = c.in-Some-dispatch.queued in
    let sends = sends_at g.S.Scheduler.policy.serves g.S.Scheduler.policy.chooses c.args.hw c.round-now.result (round_of c.self.inside.trace.events) (get_or c.self.inside.requeued c.args.hw []) (g.S.Scheduler.meaning c.self.inside.scheduler) (g.S.Scheduler.meaning c.dispatch.new.scheduler) (g.S.Scheduler.kept c.self.inside.scheduler) (g.S.Scheduler.kept c.dispatch.new.scheduler) c.self.inside.requeued c.dispatch.new.lists w
    (c.round-now.ensures.value ∙ ap (λ (t : Traced). round_of t.events) c.in-Ok.ensures.ok) c.in-Some-dispatch.ensures.some in
    tied_issue c.self.inside.trace.setup c.add.new.self.setup c.self.inside.trace.events c.add.new.self.events (g.S.Scheduler.meaning c.self.inside.scheduler) (g.S.Scheduler.meaning c.dispatch.new.scheduler) c.self.inside.tags.items c.self.inside.requeued c.dispatch.new.lists c.self.inside.released g.S.Scheduler.policy.serves g.S.Scheduler.policy.chooses _ _ c.args.hw (round_of c.self.inside.trace.events) c.args.tag w (get_or c.self.inside.requeued c.args.hw [])
    (pushed c.self.inside.trace.setup c.self.inside.trace.events c.prepare.new.trace c.add.new.self (Issue w.id c.args.tag) _ _ c.in-Ok.ensures.ok c.add.ensures.added c.add.ensures.legal)
    c.self.invariant refl sends lt
    (free_slot c.self.inside.trace.setup c.self.inside.trace.events _ c.self.inside.tags.items c.self.inside.requeued c.self.inside.released c.args.tag c.self.invariant lt can.free)
    can.queue

pub returns-clause-issued : goal.returns-clause-issued
returns-clause-issued g c =
    let w = c.in-Some-dispatch.queued in
    let sends = sends_at g.S.Scheduler.policy.serves g.S.Scheduler.policy.chooses c.args.hw c.round-now.result (round_of c.self.inside.trace.events) (get_or c.self.inside.requeued c.args.hw []) (g.S.Scheduler.meaning c.self.inside.scheduler) (g.S.Scheduler.meaning c.dispatch.new.scheduler) (g.S.Scheduler.kept c.self.inside.scheduler) (g.S.Scheduler.kept c.dispatch.new.scheduler) c.self.inside.requeued c.dispatch.new.lists w
    (c.round-now.ensures.value ∙ ap (λ (t : Traced). round_of t.events) c.in-Ok.ensures.ok) c.in-Some-dispatch.ensures.some in
    let waits = sent_waits c.self.inside.trace.setup c.self.inside.trace.events _ _ c.self.inside.tags.items c.self.inside.requeued c.dispatch.new.lists c.self.inside.released g.S.Scheduler.policy.serves g.S.Scheduler.policy.chooses _ _ c.args.hw (round_of c.self.inside.trace.events) w (get_or c.self.inside.requeued c.args.hw []) c.self.invariant refl sends in
    let p : IsPushed c.self.inside.trace.setup c.self.inside.trace.events (Issue w.id c.args.tag) c.add.new.self.setup c.add.new.self.events = pushed c.self.inside.trace.setup c.self.inside.trace.events c.prepare.new.trace c.add.new.self (Issue w.id c.args.tag) _ _ c.in-Ok.ensures.ok c.add.ensures.added c.add.ensures.legal in
    rw (← c.self.view_is) (
      w,
      sends,
      (p.same, p.added),
      refl,
      last_command c.self.inside.trace.setup c.add.new.self.setup c.self.inside.trace.events c.add.new.self.events c.args.tag w waits.0 p waits.1 waits.2,
      map-set flight_of c.self.inside.tags.items c.args.tag (InFlight c.args.hw w),
    )

pub index_mut-requires : goal.index_mut-requires
index_mut-requires g c =
    let can : CanIssue (record { setup = c.self.inside.trace.setup; events = c.self.inside.trace.events; meaning = g.S.Scheduler.meaning c.self.inside.scheduler; kept = g.S.Scheduler.kept c.self.inside.scheduler; flights = map flight_of c.self.inside.tags.items; requeued = c.self.inside.requeued }) c.args.hw c.args.tag = subst (λ (v : CoreState). CanIssue v c.args.hw c.args.tag) (sym c.self.view_is) c.in_default.ensures.none in
    let lt : c.args.tag < length c.self.inside.tags.items = tag_there c.self.inside.trace.setup c.self.inside.trace.events _ c.self.inside.tags.items c.self.inside.requeued c.self.inside.released c.args.tag c.self.invariant can.range in
    omega (arith, lt, c.self.inside.tags.ok)
