use Rattle.std.proofs.Common.{◌≡◌, ◌<◌, ◌+◌, ◌++◌, ◌∙◌, List, [], ◌∷◌, Some, length, length-append, ap, sym, arith, subst, refl}
use Rattle.std.proofs.lemmas.List.{length-set}
use Rattle.std.proofs.lemmas.Option.{slice_get_within}
use Rattle.blk_bio.specs.declared.rule.TraceRule.TheVariants as rule
use Rattle.blk_trace.specs.declared.issued.Issued.{Issued}
use Rattle.blk_trace.specs.Happened.{Happened, Done}
use Rattle.blk_trace.specs.Events.{IsOpen}
use Rattle.blk_trace.specs.Legal.{IsLegalTrace}
use Rattle.blk_trace.specs.Rules.{BreaksNoRule}
use Rattle.blk_trace.specs.Issues.{issues_of}
use Rattle.blk_trace.specs.Traces.{Traced}
use Rattle.blk_trace.specs.Inside.Kept.{IsFlyingAt}
use Rattle.blk_trace.proofs.Pushing.{push_legal}
use Rattle.blk_trace.proofs.TagUses.{unused_kept}
use Rattle.blk_trace.proofs.Opening.{open_positive}
use Rattle.blk_trace.proofs.Capacities.{depths_kept}
use Rattle.blk_trace.proofs.Last.{read_same}
use Rattle.blk_trace.proofs.Keeping.{IsEndedAt, ended_at, kept_done, room_after_end}
use Rattle.blk_trace.proofs.trace.Trace.add_done.Goals as goal

pub open_place-place-requires : goal.open_place-place-requires
open_place-place-requires g c = c.requires.unbroken rule.NotIssued

pub index-issue-requires : goal.index-issue-requires
index-issue-requires g c =
    let s = c.self.inside in
    let es : List Happened = c.self.inside.events.items in
    let k = c.self.invariant.0 in
    let all : BreaksNoRule s.setup es (Done c.args.tag) = subst (λ (v : Traced). BreaksNoRule v.setup v.events (Done c.args.tag)) (sym c.self.view_is) c.requires.unbroken in
    let o : IsOpen es c.args.tag = all rule.NotIssued in
    let place = c.open_place-place.result in
    let f : IsFlyingAt s.issued.items place c.args.tag = subst (λ (l : List Issued). IsFlyingAt l place c.args.tag) (sym k.issued_are) (subst (λ (v : Traced). IsFlyingAt (issues_of v.events) place c.args.tag) (sym c.self.view_is) c.open_place-place.ensures) in
    omega (arith, slice_get_within s.issued.items place f.issue f.there, s.issued.ok.0)

pub index_mut-requires : goal.index_mut-requires
index_mut-requires g c =
    let s = c.self.inside in
    let es : List Happened = c.self.inside.events.items in
    let k = c.self.invariant.0 in
    let all : BreaksNoRule s.setup es (Done c.args.tag) = subst (λ (v : Traced). BreaksNoRule v.setup v.events (Done c.args.tag)) (sym c.self.view_is) c.requires.unbroken in
    let o : IsOpen es c.args.tag = all rule.NotIssued in
    let place = c.open_place-place.result in
    let f : IsFlyingAt s.issued.items place c.args.tag = subst (λ (l : List Issued). IsFlyingAt l place c.args.tag) (sym k.issued_are) (subst (λ (v : Traced). IsFlyingAt (issues_of v.events) place c.args.tag) (sym c.self.view_is) c.open_place-place.ensures) in
    omega (arith, slice_get_within s.issued.items place f.issue f.there, s.issued.ok.0)

pub overflow_sub-self : goal.overflow_sub-self
overflow_sub-self g c =
    let s = c.self.inside in
    let es : List Happened = c.self.inside.events.items in
    let k = c.self.invariant.0 in
    let all : BreaksNoRule s.setup es (Done c.args.tag) = subst (λ (v : Traced). BreaksNoRule v.setup v.events (Done c.args.tag)) (sym c.self.view_is) c.requires.unbroken in
    let o : IsOpen es c.args.tag = all rule.NotIssued in
    omega (arith, open_positive s.setup es c.args.tag k.legal o, k.open_is)

pub append-requires : goal.append-requires
append-requires g c =
    let s = c.self.inside in
    let es : List Happened = c.self.inside.events.items in
    let k = c.self.invariant.0 in
    let all : BreaksNoRule s.setup es (Done c.args.tag) = subst (λ (v : Traced). BreaksNoRule v.setup v.events (Done c.args.tag)) (sym c.self.view_is) c.requires.unbroken in
    let o : IsOpen es c.args.tag = all rule.NotIssued in
    omega (arith, open_positive s.setup es c.args.tag k.legal o, k.open_is, c.self.invariant.1.for_events)

pub invariant_of-self : goal.invariant_of-self
invariant_of-self g c =
    let s = c.self.inside in
    let es : List Happened = c.self.inside.events.items in
    let k = c.self.invariant.0 in
    let all : BreaksNoRule s.setup es (Done c.args.tag) = subst (λ (v : Traced). BreaksNoRule v.setup v.events (Done c.args.tag)) (sym c.self.view_is) c.requires.unbroken in
    let o : IsOpen es c.args.tag = all rule.NotIssued in
    let place = c.open_place-place.result in
    let f : IsFlyingAt s.issued.items place c.args.tag = subst (λ (l : List Issued). IsFlyingAt l place c.args.tag) (sym k.issued_are) (subst (λ (v : Traced). IsFlyingAt (issues_of v.events) place c.args.tag) (sym c.self.view_is) c.open_place-place.ensures) in
    let i : Issued = c.index-issue.result.now in
    let same : i ≡ f.issue = read_same s.issued.items place i f.issue f.there c.index-issue.ensures in
    let it : IsFlyingAt s.issued.items place c.args.tag = record { issue = i; there = f.there ∙ ap Some (sym same); under = ap (λ (x : Issued). x.tag) same ∙ f.under; flies = ap (λ (x : Issued). x.outcome) same ∙ f.flies } in
    let x : IsEndedAt es (Done c.args.tag) place i s.issued.items = ended_at s.setup es (Done c.args.tag) c.args.tag place s.issued.items k.legal k.issued_are refl refl it in
    let hz : c.append.new.list.items ≡ es ++ (Done c.args.tag) ∷ [] = c.append.ensures.items in
    let n : length c.append.new.list.items ≡ length s.events.items + 1 = ap length c.append.ensures.items ∙ length-append s.events.items (Done c.args.tag ∷ []) in
    let some : 0 < s.«open» = omega (arith, open_positive s.setup es c.args.tag k.legal o, k.open_is) in
    (kept_done s.setup es _ c.args.tag place i s.issued.items _ _ _ _ s.tags.items k all hz x, room_after_end s.prepared _ _ _ _ _ _ _ _ _ _ _ _ some c.self.invariant.1 n c.append.ensures.room (length-set s.issued.items place _) (omega arith), depths_kept s.setup es _ (Done c.args.tag) s.depth s.next_depth c.self.invariant.2 refl refl hz, unused_kept es _ (Done c.args.tag) s.setup.depth s.unused_from refl refl hz c.self.invariant.3)

pub returns-clause-legal : goal.returns-clause-legal
returns-clause-legal g c = push_legal _ _ _ (subst (λ (v : Traced). IsLegalTrace v.setup v.events) c.self.view_is c.self.invariant.0.legal) c.requires.unbroken tt
