use Rattle.std.proofs.Common.{refl, ℕ, ◌≡◌, ◌∙◌, ◌≤◌, ◌<◌, sym, ap, subst, arith, List, length, map, get_or}
use Rattle.std.proofs.Math.ListN.{replicate}
use Rattle.blk_trace.specs.declared.event.Event.TheVariants.{Tick}
use Rattle.blk_trace.specs.Events.{open_count, round_of}
use Rattle.blk_core.specs.Inside.Ties.{flight_of}
use Rattle.blk_sched.specs.Policies.{OfTick}
use Rattle.blk_core.specs.declared.tags.TagState.TheVariants.{Free}
use Rattle.blk_core.proofs.Pushed.{IsPushed, pushed, unbroken, ready_for}
use Rattle.blk_core.proofs.Ties.{free_slot, tied_tick, tick_allowed, none_in_flight}
use Rattle.blk_core.proofs.Flights.{put_back, free_flights}
use Rattle.blk_core.proofs.calls.Core.tick.Goals as goal

-- what is said of the code's round is said of the trace's
told_at : (told : OfTick) (now round : ℕ) (kept then : List ℕ) → now ≡ round → told now kept then → told round kept then
told_at told now round kept then is h = subst (λ n. told n kept then) is h

pub add-requires-clause-unbroken : goal.add-requires-clause-unbroken
add-requires-clause-unbroken g c =
    let none : open_count c.self.inside.trace.events ≡ 0 = omega (arith, c.unfinished-unfinished.ensures.value, c.if-unfinished-gt0.false) in
    unbroken c.self.inside.trace.setup c.self.inside.trace.events c.prepare.new.trace _ Tick c.in-Ok.ensures.ok c.self.invariant.legal
    (tick_allowed c.self.inside.trace.setup c.self.inside.trace.events _ _ _ _ c.self.invariant none)
    (omega (arith, c.len.ensures.value, c.if-len-ge-MAX_EVENTS.false))

pub add-requires-clause-prepared : goal.add-requires-clause-prepared
add-requires-clause-prepared g c = ready_for c.self.inside.trace.setup c.self.inside.trace.events c.prepare.new.trace _ Tick c.in-Ok.ensures.ok tt

pub clear-requires-clause-few : goal.clear-requires-clause-few
clear-requires-clause-few g c = omega (arith, c.unused_from-bound.ensures.few, c.self.invariant.room, ap length c.deref_mut.ensures.value)

pub clear-requires-clause-free : goal.clear-requires-clause-free
clear-requires-clause-free g c =
    subst (λ l. (tag : ℕ) → c.unused_from-bound.result ≤ tag → tag < length l → get_or l tag Free ≡ Free) (sym c.deref_mut.ensures.value)
    (λ tag past low. free_slot c.self.inside.trace.setup c.self.inside.trace.events _ c.self.inside.tags.items c.self.inside.requeued c.self.inside.released tag c.self.invariant low (c.unused_from-bound.ensures.unused tag past (omega (arith, c.self.invariant.room))))

pub invariant_of-self-2 : goal.invariant_of-self-2
invariant_of-self-2 g c =
    tied_tick c.self.inside.trace.setup c.add.new.self.setup c.self.inside.trace.events c.add.new.self.events (g.S.Scheduler.meaning c.self.inside.scheduler) (g.S.Scheduler.meaning c.on_tick.new.self) c.self.inside.tags.items _ c.self.inside.requeued c.self.inside.released
    (pushed c.self.inside.trace.setup c.self.inside.trace.events c.prepare.new.trace c.add.new.self Tick _ _ c.in-Ok.ensures.ok c.add.ensures.added c.add.ensures.legal)
    c.self.invariant c.on_tick.ensures.same
    (put_back Free c.clear.new.tags c.self.inside.tags.items c.self.inside.tags.len (length c.self.inside.tags.items) (c.clear.ensures ∙ ap (λ x. replicate (length x) Free) c.deref_mut.ensures.value) (sym c.deref_mut.ensures.len ∙ ap length c.deref_mut.ensures.value))

pub returns-clause-ended : goal.returns-clause-ended
returns-clause-ended g c =
    let none : open_count c.self.inside.trace.events ≡ 0 = omega (arith, c.unfinished-unfinished.ensures.value, c.if-unfinished-gt0.false) in
    let p : IsPushed c.self.inside.trace.setup c.self.inside.trace.events Tick c.add.new.self.setup c.add.new.self.events = pushed c.self.inside.trace.setup c.self.inside.trace.events c.prepare.new.trace c.add.new.self Tick _ _ c.in-Ok.ensures.ok c.add.ensures.added c.add.ensures.legal in
    rw (← c.self.view_is) (
      (p.same, p.added),
      c.on_tick.ensures.same,
      told_at g.S.Scheduler.policy.told_tick c.round-now.result (round_of c.add.new.self.events) (g.S.Scheduler.kept c.self.inside.scheduler) (g.S.Scheduler.kept c.on_tick.new.self) c.round-now.ensures.value c.on_tick.ensures.told,
      ap (map flight_of) (put_back Free c.clear.new.tags c.self.inside.tags.items c.self.inside.tags.len (length c.self.inside.tags.items) (c.clear.ensures ∙ ap (λ x. replicate (length x) Free) c.deref_mut.ensures.value) (sym c.deref_mut.ensures.len ∙ ap length c.deref_mut.ensures.value))
          ∙ free_flights (length c.self.inside.tags.items)
          ∙ sym (none_in_flight c.self.inside.trace.setup c.self.inside.trace.events _ c.self.inside.tags.items c.self.inside.requeued c.self.inside.released c.self.invariant none),
      refl,
    )
