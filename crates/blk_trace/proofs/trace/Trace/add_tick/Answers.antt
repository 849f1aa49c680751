use Rattle.std.proofs.Common.{◌≡◌, ◌+◌, ◌++◌, ◌∙◌, List, [], ◌∷◌, length, length-append, ap, sym, arith, subst}
use Rattle.blk_trace.proofs.TagUses.{unused_ticked}
use Rattle.blk_trace.specs.Happened.{Happened, Tick}
use Rattle.blk_trace.specs.Legal.{IsLegalTrace}
use Rattle.blk_trace.specs.Rules.{BreaksNoRule}
use Rattle.blk_trace.proofs.Pushing.{push_legal}
use Rattle.blk_trace.specs.Traces.{Traced, IsPreparedFor}
use Rattle.blk_trace.proofs.More.{rounds_within}
use Rattle.blk_trace.proofs.Capacities.{depths_ticked}
use Rattle.blk_trace.proofs.Keeping.{kept_tick, room_after_tick}
use Rattle.blk_trace.proofs.trace.Trace.add_tick.Goals as goal

pub overflow_add-self : goal.overflow_add-self
overflow_add-self g c =
    omega (arith, c.self.invariant.0.round_is, rounds_within c.self.inside.events.items, c.self.invariant.0.legal.not_too_long)

pub invariant_of-self : goal.invariant_of-self
invariant_of-self g c =
    let s = c.self.inside in
    let es : List Happened = c.self.inside.events.items in
    let k = c.self.invariant.0 in
    let room = c.self.invariant.1 in
    let all : BreaksNoRule s.setup es Tick = subst (λ (v : Traced). BreaksNoRule v.setup v.events Tick) (sym c.self.view_is) c.requires.unbroken in
    let ready : IsPreparedFor s.prepared Tick = subst (λ (v : Traced). IsPreparedFor v.prepared Tick) (sym c.self.view_is) c.requires.prepared in
    let hz : c.append.new.list.items ≡ es ++ Tick ∷ [] = c.append.ensures.items in
    let n : length c.append.new.list.items ≡ length s.events.items + 1 = ap length c.append.ensures.items ∙ length-append s.events.items (Tick ∷ []) in
    (kept_tick _ es _ _ _ _ _ _ s.tags.items k all hz, room_after_tick s.prepared _ _ _ _ _ _ _ _ _ ready room n c.append.ensures.room, depths_ticked s.setup es _ s.depth s.next_depth c.self.invariant.2 hz, unused_ticked es _ s.setup.depth hz)

pub returns-clause-legal : goal.returns-clause-legal
returns-clause-legal g c = push_legal _ _ _ (subst (λ (v : Traced). IsLegalTrace v.setup v.events) c.self.view_is c.self.invariant.0.legal) c.requires.unbroken tt
