use Rattle.std.proofs.Common.{rules, refl, ℕ, ◌≡◌, ◌∙◌, ◌-◌, sym, ap, subst, ◌<◌, ◌≤◌, List, length, get_or, true, false}
use Rattle.std.proofs.lemmas.List.{map-set}
use Rattle.blk_bio.specs.declared.bio.Dir.{Dir}
use Rattle.blk_trace.specs.Events.{round_of}
use Rattle.blk_sched.specs.Meaning.{Meaning, open_of, opened}
use Rattle.blk_core.specs.declared.tags.TagState.TheVariants.{Free, InFlight, Spent}
use Rattle.blk_core.specs.Inside.Ties.{flight_of}
use Rattle.blk_sched.specs.Policies.{OfDone}
use Rattle.blk_trace.specs.declared.event.Event.TheVariants.{Done}
use Rattle.blk_core.proofs.Pushed.{pushed_at_once}
use Rattle.blk_core.proofs.Ties.{open_flight, read_at, beyond, flying_open, not_flying}
use Rattle.blk_core.proofs.Ended.{end_unbroken, tied_done_at}
use Rattle.blk_core.proofs.Flights.{flight_at}
use Rattle.blk_core.proofs.calls.Core.done.Goals as goal

told_at : (told : OfDone) (hw : ℕ) (d dir : Dir) (n wait : ℕ) (kept now : List ℕ) → d ≡ dir → n ≡ wait → told hw d n kept now → told hw dir wait kept now
told_at told hw d dir n wait kept now d_is n_is h = subst (λ x. told hw dir x kept now) n_is (subst (λ x. told hw x n kept now) d_is h)

-- what is said of the code's direction is said of the request's
completed_by : (old new : Meaning) (d dir : Dir) → d ≡ dir → old ≡ record new { open_picks = opened d new.open_picks } → old ≡ record new { open_picks = opened dir new.open_picks }
completed_by old new d dir is h = subst (λ x. old ≡ record new { open_picks = opened x new.open_picks }) is h

two_differ : {P : Type 0} → false ≡ true → P
two_differ e = cc

pub returns-then-slot-len-clause-accepted : goal.returns-then-slot-len-clause-accepted
returns-then-slot-len-clause-accepted g c =
    let past : length c.self.inside.tags.items ≤ c.args.tag = search rules in
    rw (← c.self.view_is) ((λ e. two_differ e), λ o. absurd (beyond c.self.inside.trace.setup c.self.inside.trace.events _ _ _ _ c.args.tag c.self.invariant past o))

pub add-requires-clause-unbroken : goal.add-requires-clause-unbroken
add-requires-clause-unbroken g c =
    let lt : c.args.tag < length c.self.inside.tags.items = search rules in
    end_unbroken c.self.inside.trace.setup c.self.inside.trace.events (Done c.args.tag) _ c.self.inside.tags.items c.self.inside.requeued c.self.inside.released c.args.tag c.in-InFlight.hw c.in-InFlight.queued c.self.invariant lt
    (read_at c.self.inside.tags.items c.args.tag c.in-InFlight.hw c.index.result.now c.in-InFlight.queued lt c.index.ensures c.in-InFlight.is) (λ seat. (c.in-InFlight.queued.extent.dir, seat)) refl

pub on_done-requires-clause-is_open : goal.on_done-requires-clause-is_open
on_done-requires-clause-is_open g c =
    let lt : c.args.tag < length c.self.inside.tags.items = search rules in
    let dir_is : c.dir-dir.result ≡ c.in-InFlight.queued.extent.dir = c.dir-dir.ensures in
    subst (λ d. 0 < open_of d (g.S.Scheduler.meaning c.self.inside.scheduler).open_picks) (sym dir_is)
    (open_flight c.self.inside.trace.setup c.self.inside.trace.events _ c.self.inside.tags.items c.self.inside.requeued c.self.inside.released c.args.tag c.in-InFlight.hw c.in-InFlight.queued c.self.invariant lt
    (read_at c.self.inside.tags.items c.args.tag c.in-InFlight.hw c.index.result.now c.in-InFlight.queued lt c.index.ensures c.in-InFlight.is))

pub invariant_of-self : goal.invariant_of-self
invariant_of-self g c =
    let w = c.in-InFlight.queued in
    let lt : c.args.tag < length c.self.inside.tags.items = search rules in
    let at : get_or c.self.inside.tags.items c.args.tag Free ≡ InFlight c.in-InFlight.hw w = read_at c.self.inside.tags.items c.args.tag c.in-InFlight.hw c.index.result.now w lt c.index.ensures c.in-InFlight.is in
    let dir_is : c.dir-dir.result ≡ w.extent.dir = c.dir-dir.ensures in
    tied_done_at c.self.inside.trace.setup c.add.new.self.setup c.self.inside.trace.events c.add.new.self.events (g.S.Scheduler.meaning c.self.inside.scheduler) (g.S.Scheduler.meaning c.on_done.new.self) c.self.inside.tags.items c.self.inside.requeued c.self.inside.released c.args.tag c.in-InFlight.hw w c.dir-dir.result
    (pushed_at_once c.self.inside.trace c.add.new.self (Done c.args.tag) _ c.add.ensures.added c.add.ensures.legal) c.self.invariant lt at dir_is c.on_done.ensures.done

pub returns-clause-done : goal.returns-clause-done
returns-clause-done g c =
    let w = c.in-InFlight.queued in
    let lt : c.args.tag < length c.self.inside.tags.items = search rules in
    let at : get_or c.self.inside.tags.items c.args.tag Free ≡ InFlight c.in-InFlight.hw w = read_at c.self.inside.tags.items c.args.tag c.in-InFlight.hw c.index.result.now w lt c.index.ensures c.in-InFlight.is in
    let dir_is : c.dir-dir.result ≡ w.extent.dir = c.dir-dir.ensures in
    let wait_is : c.saturating_sub-wait.result ≡ round_of c.self.inside.trace.events - w.release = c.saturating_sub-wait.ensures ∙ ap (λ n. n - w.release) c.round.ensures.value in
    let p = pushed_at_once c.self.inside.trace c.add.new.self (Done c.args.tag) _ c.add.ensures.added c.add.ensures.legal in
    rw (← c.self.view_is) (
      record { hw = c.in-InFlight.hw; request = w },
      flight_at c.self.inside.tags.items c.args.tag c.in-InFlight.hw w lt at,
      c.self.invariant.flown c.args.tag c.in-InFlight.hw w at,
      (p.same, p.added),
      completed_by (g.S.Scheduler.meaning c.self.inside.scheduler) (g.S.Scheduler.meaning c.on_done.new.self) c.dir-dir.result w.extent.dir dir_is c.on_done.ensures.done,
      told_at g.S.Scheduler.policy.told_done c.in-InFlight.hw c.dir-dir.result w.extent.dir c.saturating_sub-wait.result (round_of c.self.inside.trace.events - w.release) (g.S.Scheduler.kept c.self.inside.scheduler) (g.S.Scheduler.kept c.on_done.new.self) dir_is wait_is c.on_done.ensures.told,
      map-set flight_of c.self.inside.tags.items c.args.tag (Spent c.dir-dir.result),
      refl,
    )

pub returns-in_default-clause-accepted : goal.returns-in_default-clause-accepted
returns-in_default-clause-accepted g c =
    let lt : c.args.tag < length c.self.inside.tags.items = search rules in
    rw (← c.self.view_is) ((λ e. two_differ e), λ o. absurd (not_flying c.self.inside.trace.setup c.self.inside.trace.events _ c.self.inside.tags.items c.self.inside.requeued c.self.inside.released c.args.tag c.index.result.now c.self.invariant lt c.index.ensures c.in_default.not-InFlight o))

pub returns-clause-accepted : goal.returns-clause-accepted
returns-clause-accepted g c =
    let lt : c.args.tag < length c.self.inside.tags.items = search rules in
    let at : get_or c.self.inside.tags.items c.args.tag Free ≡ InFlight c.in-InFlight.hw c.in-InFlight.queued = read_at c.self.inside.tags.items c.args.tag c.in-InFlight.hw c.index.result.now c.in-InFlight.queued lt c.index.ensures c.in-InFlight.is in
    rw (← c.self.view_is) ((λ _. flying_open c.self.inside.trace.setup c.self.inside.trace.events _ c.self.inside.tags.items c.self.inside.requeued c.self.inside.released c.args.tag c.in-InFlight.hw c.in-InFlight.queued c.self.invariant at), λ _. refl)
