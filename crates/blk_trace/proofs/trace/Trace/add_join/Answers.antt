use Rattle.std.proofs.Common.{◌≡◌, ◌+◌, ◌++◌, ◌∙◌, List, [], ◌∷◌, Some, length, length-append, ap, sym, subst, refl}
use Rattle.std.specs.Prelude.{IsSome, ◌||◌}
use Rattle.blk_bio.specs.Bios.{Bio}
use Rattle.blk_ids.specs.ById as by_id
use Rattle.blk_ids.specs.IdSet as id_set
use Rattle.blk_trace.specs.Waits.{Entered, summary, entered_at}
use Rattle.blk_bio.specs.declared.rule.TraceRule.TheVariants as rule
use Rattle.blk_trace.specs.Happened.{Happened, Join}
use Rattle.blk_trace.specs.Events.{IsReleased}
use Rattle.blk_trace.specs.Legal.{IsLegalTrace}
use Rattle.blk_trace.specs.Rules.{BreaksNoRule}
use Rattle.blk_trace.proofs.Pushing.{push_legal}
use Rattle.blk_trace.specs.Traces.{Traced, IsPreparedFor}
use Rattle.blk_trace.specs.Inside.Kept.{request_at, has_named, has_bio_id}
use Rattle.blk_trace.proofs.Joining.{fits_to}
use Rattle.blk_trace.proofs.Knowing.{known_there}
use Rattle.blk_trace.proofs.Waiting.{request_there}
use Rattle.blk_trace.proofs.Capacities.{depths_kept}
use Rattle.blk_trace.proofs.TagUses.{unused_kept}
use Rattle.blk_trace.proofs.Keeping.{entered_request, kept_join, room_after_entry, join_room}
use Rattle.blk_trace.proofs.trace.Trace.add_join.Goals as goal

pub unreachable-requires : goal.unreachable-requires
unreachable-requires g c = c.in_default.ensures.none (c.requires.unbroken rule.Unknown)

pub joined-requires : goal.joined-requires
joined-requires g c =
    let t = c.args.self.now in
    (entered_at t.setup t.events c.args.id, c.in-Some.ensures.some.1, c.in-Some.ensures.is_request c.in-Some.ensures.some.0)

pub unreachable-requires-in_default-joined : goal.unreachable-requires-in_default-joined
unreachable-requires-in_default-joined g c =
    let t = c.args.self.now in
    let w : Entered = entered_at t.setup t.events c.args.id in
    let lim : t.setup.limits ≡ c.limits.result = sym (c.limits.ensures ∙ ap (λ (v : Traced). v.setup.limits) c.self.view_is) in
    let f = fits_to t.setup.limits c.limits.result w.bios w.bios c.args.request lim refl (c.requires.unbroken rule.Fit) in
    c.in_default-joined.ensures.none w c.in-Some.ensures.some.1 (c.in-Some.ensures.is_request c.in-Some.ensures.some.0) f.0 f.1

pub set-requires : goal.set-requires
set-requires g c =
    let s = c.self.inside in
    let es : List Happened = c.self.inside.events.items in
    let released : IsReleased es c.args.id = subst (λ (v : Traced). IsReleased v.events c.args.id) (sym c.self.view_is) c.in-Some.ensures.some.0 in
    subst IsSome (sym (c.self.invariant.0.known_are c.args.id ∙ known_there s.setup es c.args.id released)) refl

pub invariant_of-self : goal.invariant_of-self
invariant_of-self g c =
    let s = c.self.inside in
    let es : List Happened = c.self.inside.events.items in
    let k = c.self.invariant.0 in
    let room = c.self.invariant.1 in
    let all : BreaksNoRule s.setup es (Join c.args.id c.args.request) = subst (λ (v : Traced). BreaksNoRule v.setup v.events (Join c.args.id c.args.request)) (sym c.self.view_is) c.requires.unbroken in
    let ready : IsPreparedFor s.prepared (Join c.args.id c.args.request) = subst (λ (v : Traced). IsPreparedFor v.prepared (Join c.args.id c.args.request)) (sym c.self.view_is) c.requires.prepared in
    let w : Entered = entered_at s.setup es c.args.id in
    let old : IsReleased es c.args.id × (c.in-Some.old ≡ summary w) = subst (λ (v : Traced). IsReleased v.events c.args.id × (c.in-Some.old ≡ summary (entered_at v.setup v.events c.args.id))) (sym c.self.view_is) c.in-Some.ensures.some in
    let there : request_at s.setup es c.args.id ≡ Some w = request_there s.setup es c.args.id old.0 in
    let hz : c.append.new.list.items ≡ es ++ (Join c.args.id c.args.request) ∷ [] = c.append.ensures.items in
    let n : length c.append.new.list.items ≡ length s.events.items + 1 = ap length c.append.ensures.items ∙ length-append s.events.items (Join c.args.id c.args.request ∷ []) in
    let j = c.in-Some-joined.ensures.some w old.1 (entered_request s.setup es c.args.id w k.requests_are there) in
    (kept_join _ es _ c.args.id c.args.request w c.in-Some-joined.entry _ _ _ (by_id.kept_at s.known) _ (has_named (id_set.set_has s.ids)) _ _ k all hz c.bios.ensures.is_request there j.1 c.set.ensures.value (λ b. c.insert_ids.ensures.ids b ∙ ap (λ (l : List Bio). has_named (id_set.set_has s.ids) b || has_bio_id l b) c.bios.ensures.bios), room_after_entry s.prepared _ _ _ _ _ _ _ _ _ _ _ (join_room s.prepared c.args.id c.args.request ready).0 room n c.append.ensures.room, depths_kept s.setup es _ (Join c.args.id c.args.request) s.depth s.next_depth c.self.invariant.2 refl refl hz, unused_kept es _ (Join c.args.id c.args.request) s.setup.depth s.unused_from refl refl hz c.self.invariant.3)

pub returns-clause-legal : goal.returns-clause-legal
returns-clause-legal g c = push_legal _ _ _ (subst (λ (v : Traced). IsLegalTrace v.setup v.events) c.self.view_is c.self.invariant.0.legal) c.requires.unbroken c.bios.ensures.is_request
