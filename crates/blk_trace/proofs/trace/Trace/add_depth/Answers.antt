use Rattle.std.proofs.Common.{◌≡◌, ◌+◌, ◌++◌, ◌∙◌, List, [], ◌∷◌, length, length-append, ap, refl, sym, subst}
use Rattle.blk_trace.specs.Happened.{Happened, Depth}
use Rattle.blk_trace.specs.Legal.{IsLegalTrace}
use Rattle.blk_trace.specs.Rules.{BreaksNoRule}
use Rattle.blk_trace.proofs.Pushing.{push_legal}
use Rattle.blk_trace.specs.Traces.{Traced, IsPreparedFor}
use Rattle.blk_trace.proofs.Capacities.{depths_set}
use Rattle.blk_trace.proofs.TagUses.{unused_kept}
use Rattle.blk_trace.proofs.Keeping.{kept_depth, room_after_depth}
use Rattle.blk_trace.proofs.trace.Trace.add_depth.Goals as goal

pub invariant_of-self : goal.invariant_of-self
invariant_of-self g c =
    let s = c.self.inside in
    let es : List Happened = c.self.inside.events.items in
    let k = c.self.invariant.0 in
    let room = c.self.invariant.1 in
    let all : BreaksNoRule s.setup es (Depth c.args.depth) = subst (λ (v : Traced). BreaksNoRule v.setup v.events (Depth c.args.depth)) (sym c.self.view_is) c.requires.unbroken in
    let ready : IsPreparedFor s.prepared (Depth c.args.depth) = subst (λ (v : Traced). IsPreparedFor v.prepared (Depth c.args.depth)) (sym c.self.view_is) c.requires.prepared in
    let hz : c.append.new.list.items ≡ es ++ (Depth c.args.depth) ∷ [] = c.append.ensures.items in
    let n : length c.append.new.list.items ≡ length s.events.items + 1 = ap length c.append.ensures.items ∙ length-append s.events.items (Depth c.args.depth ∷ []) in
    (kept_depth _ es _ c.args.depth _ _ _ _ _ s.tags.items k all hz, room_after_depth s.prepared c.args.depth _ _ _ _ _ _ _ _ _ ready room n c.append.ensures.room, depths_set s.setup es _ s.depth s.next_depth c.args.depth c.self.invariant.2 hz, unused_kept es _ (Depth c.args.depth) s.setup.depth s.unused_from refl refl hz c.self.invariant.3)

pub returns-clause-legal : goal.returns-clause-legal
returns-clause-legal g c = push_legal _ _ _ (subst (λ (v : Traced). IsLegalTrace v.setup v.events) c.self.view_is c.self.invariant.0.legal) c.requires.unbroken tt
