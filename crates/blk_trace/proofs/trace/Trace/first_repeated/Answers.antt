use Rattle.std.proofs.Common.{◌≡◌, ◌∙◌, ◌++◌, [], sym, subst, take, true}
use Rattle.std.specs.Prelude.{◌||◌}
use Rattle.blk_trace.specs.Events.{entered, AreOnce}
use Rattle.blk_trace.specs.Traces.{Traced}
use Rattle.blk_trace.specs.Inside.Kept.{has_bio_id}
use Rattle.blk_trace.proofs.Newness.{once_first, once_next, once_whole, first_at, seen_before, seen_earlier, not_before}
use Rattle.blk_trace.proofs.trace.Trace.first_repeated.Goals as goal
use Rattle.blk_trace.proofs.trace.Trace.first_repeated.Goals.{then-has_bio-via-then-has_bio, then-has_bio-via-else-has_bio+then-has_id}

pub returns-then-has_bio-clause-some : goal.returns-then-has_bio-clause-some
returns-then-has_bio-clause-some g c =
    let before = entered c.args.self.now.events in
    let earlier = take c.loop-place.place c.args.bios.now in
    let id = c.id-id.result in
    let seen : (has_bio_id before id || has_bio_id earlier id) ≡ true = elim c.then-has_bio.branch [
      | then-has_bio-via-then-has_bio w ↦ seen_before before earlier id (c.has_bio.ensures.0 w.if-has_bio.true)
      | then-has_bio-via-else-has_bio+then-has_id w ↦ seen_earlier before earlier id (sym w.has_id.ensures ∙ w.if-has_id.true)
    ] in
    first_at before c.args.bios.now c.loop-place.place c.index-bios-place.result id c.loop-place-test.true c.index-bios-place.is c.id-id.ensures seen c.loop-place.invariant

pub loop-place-init : goal.loop-place-init
loop-place-init g c =
    let P : Traced → Type 0 = λ v. AreOnce (entered v.events ++ []) in
    let inner : P record { setup = c.self.inside.setup; events = c.self.inside.events.items; prepared = c.self.inside.prepared } = once_first (entered c.self.inside.events.items) c.self.invariant.0.legal.bios_once in
    subst P c.self.view_is inner

pub loop-place-preserved : goal.loop-place-preserved
loop-place-preserved g c =
    let before = entered c.args.self.now.events in
    once_next before c.args.bios.now c.loop-place.place c.index-bios-place.result c.id-id.result c.loop-place-test.true c.index-bios-place.is c.id-id.ensures
    (not_before before c.id-id.result c.has_bio.result c.has_bio.ensures c.if-has_bio.false) (sym c.has_id.ensures ∙ c.if-has_id.false) c.loop-place.invariant

pub returns-clause-none : goal.returns-clause-none
returns-clause-none g c = once_whole (entered c.args.self.now.events) c.args.bios.now c.loop-place.place c.loop-place-test.false c.loop-place.invariant
