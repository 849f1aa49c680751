use Rattle.std.proofs.Common.{◌≡◌, ◌<◌, ◌+◌, ◌++◌, ◌==◌, ◌∙◌, ℕ, List, [], ◌∷◌, Some, cond, length, length-append, ap, sym, arith, subst, refl}
use Rattle.std.specs.Prelude.{IsSome, option_map}
use Rattle.blk_ids.specs.ById as by_id
use Rattle.blk_trace.specs.declared.issued.Issued.{Issued}
use Rattle.blk_trace.specs.declared.issued.Outcome.TheVariants.{Flying}
use Rattle.blk_bio.specs.declared.rule.TraceRule.TheVariants as rule
use Rattle.blk_trace.specs.Happened.{Happened, Issue}
use Rattle.blk_trace.specs.Events.{round_of, IsReleased}
use Rattle.blk_trace.specs.Depths.{depth_now}
use Rattle.blk_trace.specs.Legal.{IsLegalTrace}
use Rattle.blk_trace.specs.Rules.{BreaksNoRule}
use Rattle.blk_trace.proofs.Pushing.{push_legal}
use Rattle.blk_trace.specs.Traces.{Traced, IsPreparedFor}
use Rattle.blk_trace.proofs.TagUses.{unused_issued}
use Rattle.blk_trace.specs.declared.known.Stage.TheVariants.{Gone}
use Rattle.blk_trace.specs.Waits.{Entered, entered_at, waits_at}
use Rattle.blk_trace.specs.Inside.Kept.{at_stage}
use Rattle.blk_trace.proofs.Ids.{all_back}
use Rattle.blk_trace.proofs.Knowing.{known_there}
use Rattle.blk_trace.proofs.Waiting.{waits_for}
use Rattle.blk_trace.proofs.Depths.{depth_now_is}
use Rattle.blk_trace.proofs.Capacities.{depth_few, depths_kept}
use Rattle.blk_trace.proofs.Keeping.{kept_issue, room_after_issue}
use Rattle.blk_trace.proofs.trace.Trace.add_issue.Goals as goal

pub moved-requires : goal.moved-requires
moved-requires g c =
    let s = c.self.inside in
    let es : List Happened = c.self.inside.events.items in
    let all : BreaksNoRule s.setup es (Issue c.args.id c.args.tag) = subst (λ (v : Traced). BreaksNoRule v.setup v.events (Issue c.args.id c.args.tag)) (sym c.self.view_is) c.requires.unbroken in
    subst IsSome (sym (c.self.invariant.0.known_are c.args.id ∙ known_there s.setup es c.args.id (all rule.Unknown))) refl

pub index_mut-requires : goal.index_mut-requires
index_mut-requires g c =
    let s = c.self.inside in
    let es : List Happened = c.self.inside.events.items in
    let k = c.self.invariant.0 in
    let room = c.self.invariant.1 in
    let all : BreaksNoRule s.setup es (Issue c.args.id c.args.tag) = subst (λ (v : Traced). BreaksNoRule v.setup v.events (Issue c.args.id c.args.tag)) (sym c.self.view_is) c.requires.unbroken in
    let below : c.args.tag < depth_now s.setup es = all rule.TagRange in
    omega (arith, below, depth_now_is s.setup es, depth_few s.setup es (round_of es) k.legal, k.each_tag, s.tags.ok.0)

pub invariant_of-self : goal.invariant_of-self
invariant_of-self g c =
    let s = c.self.inside in
    let es : List Happened = c.self.inside.events.items in
    let k = c.self.invariant.0 in
    let room = c.self.invariant.1 in
    let all : BreaksNoRule s.setup es (Issue c.args.id c.args.tag) = subst (λ (v : Traced). BreaksNoRule v.setup v.events (Issue c.args.id c.args.tag)) (sym c.self.view_is) c.requires.unbroken in
    let ready : IsPreparedFor s.prepared (Issue c.args.id c.args.tag) = subst (λ (v : Traced). IsPreparedFor v.prepared (Issue c.args.id c.args.tag)) (sym c.self.view_is) c.requires.prepared in
    let below : c.args.tag < depth_now s.setup es = all rule.TagRange in
    let low : c.args.tag < length s.tags.items = omega (arith, below, depth_now_is s.setup es, depth_few s.setup es (round_of es) k.legal, k.each_tag) in
    let w : Entered = entered_at s.setup es c.args.id in
    let released : IsReleased es c.args.id = all rule.Unknown in
    let known = k.known_are c.args.id ∙ known_there s.setup es c.args.id released in
    let waits : waits_at s.setup es c.args.id ≡ Some w = waits_for s.setup es c.args.id released (all_back es c.args.id (all rule.AlreadyIssued)) in
    let hz : c.append-2.new.list.items ≡ es ++ (Issue c.args.id c.args.tag) ∷ [] = c.append-2.ensures.items in
    let n : length c.append-2.new.list.items ≡ length s.events.items + 1 = ap length c.append-2.ensures.items ∙ length-append s.events.items (Issue c.args.id c.args.tag ∷ []) in
    let hd : c.append.new.list.items ≡ s.issued.items ++ (let i : Issued = record { round = s.round; id = c.args.id; tag = c.args.tag; outcome = Flying } in i) ∷ [] = c.append.ensures.items in
    let gone = λ (q : ℕ). c.moved.ensures.stage q ∙ ap (λ o. cond (c.args.id == q) (option_map (at_stage Gone) o) (by_id.kept_at s.known q)) known in
    let hc : length c.append.new.list.items ≡ length s.issued.items + 1 = ap length c.append.ensures.items ∙ length-append s.issued.items _ in
    let place = c.len-place.result in
    (kept_issue _ es _ c.args.id c.args.tag place w _ _ _ _ (by_id.kept_at s.known) _ _ s.tags.items k all hz waits (omega (arith, c.len-place.ensures, s.issued.ok.0)) hd gone, room_after_issue s.prepared c.args.id c.args.tag _ _ _ _ _ _ _ _ _ _ _ _ ready room n hc c.append-2.ensures.room c.append.ensures.room, depths_kept s.setup es _ (Issue c.args.id c.args.tag) s.depth s.next_depth c.self.invariant.2 refl refl hz, unused_issued es _ c.args.id c.args.tag s.setup.depth s.unused_from c.past-self-inside.result c.past-self-inside.ensures.higher c.past-self-inside.ensures.past c.past-self-inside.ensures.least (omega (arith, low, k.each_tag)) hz c.self.invariant.3)

pub returns-clause-legal : goal.returns-clause-legal
returns-clause-legal g c = push_legal _ _ _ (subst (λ (v : Traced). IsLegalTrace v.setup v.events) c.self.view_is c.self.invariant.0.legal) c.requires.unbroken tt
