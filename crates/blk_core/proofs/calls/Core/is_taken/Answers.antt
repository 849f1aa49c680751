use Rattle.std.proofs.Common.{◌<◌, ◌∙◌, sym, subst, refl, arith, length}
use Rattle.blk_core.specs.State.{CoreState}
use Rattle.blk_core.proofs.Ties.{slot_free, slot_used}
use Rattle.blk_core.proofs.calls.Core.is_taken.Goals as goal

pub returns-in-Free : goal.returns-in-Free
returns-in-Free g c =
    let below : c.args.tag < c.self.inside.trace.setup.depth = subst (λ (v : CoreState). c.args.tag < v.setup.depth) (sym c.self.view_is) c.requires in
    let room = c.self.invariant.room in
    let lt : c.args.tag < length c.self.inside.tags.items = omega arith in
    rw (← c.self.view_is) ((λ t. absurd (cc)), λ used. absurd (slot_free c.self.inside.trace.setup c.self.inside.trace.events _ c.self.inside.tags.items c.self.inside.requeued c.self.inside.released c.args.tag c.index.result.now c.self.invariant lt c.index.ensures c.in-Free.is used))

pub returns-in-InFlight : goal.returns-in-InFlight
returns-in-InFlight g c =
    let below : c.args.tag < c.self.inside.trace.setup.depth = subst (λ (v : CoreState). c.args.tag < v.setup.depth) (sym c.self.view_is) c.requires in
    let room = c.self.invariant.room in
    let lt : c.args.tag < length c.self.inside.tags.items = omega arith in
    rw (← c.self.view_is) ((λ _. slot_used c.self.inside.trace.setup c.self.inside.trace.events _ c.self.inside.tags.items c.self.inside.requeued c.self.inside.released c.args.tag c.index.result.now c.self.invariant lt c.index.ensures (λ free. absurd (let both = sym c.in-InFlight.is ∙ free in cc))), λ _. refl)

pub returns-in-Spent : goal.returns-in-Spent
returns-in-Spent g c =
    let below : c.args.tag < c.self.inside.trace.setup.depth = subst (λ (v : CoreState). c.args.tag < v.setup.depth) (sym c.self.view_is) c.requires in
    let room = c.self.invariant.room in
    let lt : c.args.tag < length c.self.inside.tags.items = omega arith in
    rw (← c.self.view_is) ((λ _. slot_used c.self.inside.trace.setup c.self.inside.trace.events _ c.self.inside.tags.items c.self.inside.requeued c.self.inside.released c.args.tag c.index.result.now c.self.invariant lt c.index.ensures (λ free. absurd (let both = sym c.in-Spent.is ∙ free in cc))), λ _. refl)
