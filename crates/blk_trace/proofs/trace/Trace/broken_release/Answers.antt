use Rattle.std.proofs.Common.{refl, ◌∙◌, ap, sym, subst}
use Rattle.blk_bio.specs.Requests.{IsWithin}
use Rattle.blk_trace.proofs.Asked.{holds, fails, no_some, is_there}
use Rattle.blk_trace.proofs.Knowing.{known_none, known_some}
use Rattle.blk_trace.specs.Happened.{Release}
use Rattle.blk_trace.proofs.Room.{room_kept, full_kept}
use Rattle.blk_trace.proofs.First.{release_released_twice, release_bio_twice, release_fit, release_too_long, release_unbroken}
use Rattle.blk_trace.specs.Setups.{Setup}
use Rattle.blk_trace.proofs.trace.Trace.broken_release.Goals as goal

pub returns-then-is_some-clause-some : goal.returns-then-is_some-clause-some
returns-then-is_some-clause-some g c =
    let q = is_there c.known_at.result (sym c.is_some.ensures ∙ c.if-is_some.true) in
    release_released_twice c.args.self.now.setup c.args.self.now.events c.args.id c.args.request.now (λ h. h (known_some c.args.self.now.setup c.args.self.now.events c.args.id q.0 (sym c.known_at.ensures.value ∙ q.1)).released)

pub returns-then-not-are_new-clause-some : goal.returns-then-not-are_new-clause-some
returns-then-not-are_new-clause-some g c =
    release_bio_twice c.args.self.now.setup c.args.self.now.events c.args.id c.args.request.now (known_none c.args.self.now.setup c.args.self.now.events c.args.id (sym c.known_at.ensures.value ∙ no_some c.known_at.result (sym c.is_some.ensures ∙ c.if-is_some.false))) (fails c.are_new.result c.if-not-are_new.true c.are_new.ensures)

pub returns-then-not-within-clause-some : goal.returns-then-not-within-clause-some
returns-then-not-within-clause-some g c =
    release_fit c.args.self.now.setup c.args.self.now.events c.args.id c.args.request.now (known_none c.args.self.now.setup c.args.self.now.events c.args.id (sym c.known_at.ensures.value ∙ no_some c.known_at.result (sym c.is_some.ensures ∙ c.if-is_some.false))) (holds c.are_new.result c.if-not-are_new.false c.are_new.ensures) (λ h. fails c.within.result c.if-not-within.true c.within.ensures (subst (λ l. IsWithin l c.args.request.now) (sym (c.limits.ensures ∙ ap (λ (s : Setup). s.limits) c.setup.ensures)) h))

pub returns-then-not-has_places-clause-some : goal.returns-then-not-has_places-clause-some
returns-then-not-has_places-clause-some g c =
    release_too_long c.args.self.now.setup c.args.self.now.events c.args.id c.args.request.now (known_none c.args.self.now.setup c.args.self.now.events c.args.id (sym c.known_at.ensures.value ∙ no_some c.known_at.result (sym c.is_some.ensures ∙ c.if-is_some.false))) (holds c.are_new.result c.if-not-are_new.false c.are_new.ensures) (subst (λ l. IsWithin l c.args.request.now) (c.limits.ensures ∙ ap (λ (s : Setup). s.limits) c.setup.ensures) (holds c.within.result c.if-not-within.false c.within.ensures)) (full_kept c.args.self.now.setup c.args.self.now.events (Release c.args.id c.args.request.now) refl refl (fails c.has_places.result c.if-not-has_places.true c.has_places.ensures))

pub returns-else-not-has_places-clause-none : goal.returns-else-not-has_places-clause-none
returns-else-not-has_places-clause-none g c =
    release_unbroken c.args.self.now.setup c.args.self.now.events c.args.id c.args.request.now (known_none c.args.self.now.setup c.args.self.now.events c.args.id (sym c.known_at.ensures.value ∙ no_some c.known_at.result (sym c.is_some.ensures ∙ c.if-is_some.false))) (holds c.are_new.result c.if-not-are_new.false c.are_new.ensures) (subst (λ l. IsWithin l c.args.request.now) (c.limits.ensures ∙ ap (λ (s : Setup). s.limits) c.setup.ensures) (holds c.within.result c.if-not-within.false c.within.ensures)) (room_kept c.args.self.now.setup c.args.self.now.events (Release c.args.id c.args.request.now) refl refl (holds c.has_places.result c.if-not-has_places.false c.has_places.ensures))
