use Rattle.std.proofs.Common.{◌≡◌, ◌∙◌, sym, ap, subst, refl, ◌+◌, map, arith}
use Rattle.blk_bio.specs.Requests.{dir_of, IsWithin}
use Rattle.blk_bio.specs.Extents.{Extent}
use Rattle.blk_trace.specs.Setups.{expire_of}
use Rattle.blk_trace.specs.declared.event.Event.TheVariants.{Release}
use Rattle.blk_trace.specs.Events.{round_of}
use Rattle.blk_trace.specs.Traces.{Traced}
use Rattle.blk_sched.specs.Meaning.{Waiting}
use Rattle.blk_core.specs.State.{CoreState}
use Rattle.blk_core.specs.Inside.Ties.{flight_of}
use Rattle.blk_core.specs.Faults.{CanRelease}
use Rattle.blk_core.proofs.Pushed.{pushed, unbroken, ready_for}
use Rattle.blk_core.proofs.Ties.{tied_release, entered_at}
use Rattle.blk_core.proofs.calls.Core.insert.Goals as goal

pub add-requires-clause-unbroken : goal.add-requires-clause-unbroken
add-requires-clause-unbroken g c =
    let can : CanRelease (record { setup = c.self.inside.trace.setup; events = c.self.inside.trace.events; meaning = g.S.Scheduler.meaning c.self.inside.scheduler; kept = g.S.Scheduler.kept c.self.inside.scheduler; flights = map flight_of c.self.inside.tags.items; requeued = c.self.inside.requeued }) c.args.request c.args.hw = subst (λ (v : CoreState). CanRelease v c.args.request c.args.hw) (sym c.self.view_is) c.requires.can in
    let room = can.room in
    let given : IsWithin c.self.inside.trace.setup.limits c.args.request = subst (λ (v : CoreState). IsWithin v.setup.limits c.args.request) (sym c.self.view_is) c.requires.within in
    unbroken c.self.inside.trace.setup c.self.inside.trace.events c.prepare_bios.new.trace _ (Release c.self.inside.released c.args.request) c.in-Ok.ensures.ok c.self.invariant.legal
    ((λ r. let below = c.self.invariant.known c.self.inside.released r in omega arith), given, can.once)
    (omega arith)

pub add-requires-clause-prepared : goal.add-requires-clause-prepared
add-requires-clause-prepared g c = ready_for c.self.inside.trace.setup c.self.inside.trace.events c.prepare_bios.new.trace _ (Release c.self.inside.released c.args.request) c.in-Ok.ensures.ok refl

pub invariant_of-self-2 : goal.invariant_of-self-2
invariant_of-self-2 g c =
    let now_is : c.round-release.result ≡ round_of c.self.inside.trace.events = c.round-release.ensures.value ∙ ap (λ (t : Traced). round_of t.events) c.in-Ok.ensures.ok in
    let entry : Waiting = record { id = c.self.inside.released; hw = c.args.hw; release = c.round-release.result; due = c.round-release.result + c.expire.result; extent = c.extent-extent.result } in
    let expire : c.expire.result ≡ expire_of c.self.inside.trace.setup (dir_of c.args.request) =
    c.expire.ensures.value ∙ ap (λ d. expire_of c.setup.result d) (c.dir.ensures ∙ ap (λ (x : Extent). x.dir) c.extent-extent.ensures.value)
    ∙ ap (λ s. expire_of s (dir_of c.args.request)) (c.setup.ensures ∙ ap (λ (t : Traced). t.setup) c.in-Ok.ensures.ok) in
    tied_release c.self.inside.trace.setup c.add.new.self.setup c.self.inside.trace.events c.add.new.self.events (g.S.Scheduler.meaning c.self.inside.scheduler) (g.S.Scheduler.meaning c.insert.new.self) c.self.inside.tags.items c.self.inside.requeued c.self.inside.released c.args.request entry
    (pushed c.self.inside.trace.setup c.self.inside.trace.events c.prepare_bios.new.trace c.add.new.self (Release c.self.inside.released c.args.request) _ _ c.in-Ok.ensures.ok c.add.ensures.added c.add.ensures.legal)
    c.self.invariant
    (entered_at c.self.inside.trace.setup c.self.inside.trace.events c.self.inside.released c.args.hw c.round-release.result c.expire.result c.extent-extent.result c.args.request now_is c.extent-extent.ensures.value expire)
    c.extent-extent.ensures.is_request c.in-Ok-insert.ensures.ok
