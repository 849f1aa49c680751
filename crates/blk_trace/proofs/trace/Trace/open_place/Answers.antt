use Rattle.std.proofs.Common.{◌≡◌, ◌<◌, ◌∙◌, List, Some, length, ap, sym, arith, subst}
use Rattle.std.specs.Prelude.{slice_get}
use Rattle.blk_trace.specs.Happened.{Happened}
use Rattle.blk_trace.specs.Events.{IsOpen}
use Rattle.blk_trace.specs.Issues.{issues_of}
use Rattle.blk_trace.specs.Traces.{Traced}
use Rattle.blk_trace.specs.Inside.Kept.{IsFlyingAt}
use Rattle.blk_trace.proofs.Capacities.{tag_below}
use Rattle.blk_trace.proofs.Last.{last_issue, open_last, none_open, read_at}
use Rattle.blk_trace.proofs.trace.Trace.open_place.Goals as goal

pub index-requires : goal.index-requires
index-requires g c =
    let s = c.self.inside in
    let es : List Happened = s.events.items in
    let k = c.self.invariant.0 in
    let o : IsOpen es c.args.tag = subst (λ (v : Traced). IsOpen v.events c.args.tag) (sym c.self.view_is) c.requires in
    let low : c.args.tag < length s.tags.items = omega (arith, tag_below s.setup es o.place o.id c.args.tag k.legal o.issued, k.each_tag) in
    omega (arith, low, s.tags.ok.0)

pub unreachable-requires : goal.unreachable-requires
unreachable-requires g c =
    let s = c.self.inside in
    let es : List Happened = s.events.items in
    let k = c.self.invariant.0 in
    let o : IsOpen es c.args.tag = subst (λ (v : Traced). IsOpen v.events c.args.tag) (sym c.self.view_is) c.requires in
    let low : c.args.tag < length s.tags.items = omega (arith, tag_below s.setup es o.place o.id c.args.tag k.legal o.issued, k.each_tag) in
    let kept : slice_get s.tags.items c.args.tag ≡ Some c.index.result.now = read_at s.tags.items c.args.tag c.index.result.now low c.index.ensures in
    none_open es s.issued.items s.tags.items c.args.tag k.issued_are k.tags_are (kept ∙ ap Some c.in_default.is) o

pub returns : goal.returns
returns g c =
    let s = c.self.inside in
    let es : List Happened = s.events.items in
    let k = c.self.invariant.0 in
    let o : IsOpen es c.args.tag = subst (λ (v : Traced). IsOpen v.events c.args.tag) (sym c.self.view_is) c.requires in
    let low : c.args.tag < length s.tags.items = omega (arith, tag_below s.setup es o.place o.id c.args.tag k.legal o.issued, k.each_tag) in
    let kept : slice_get s.tags.items c.args.tag ≡ Some c.index.result.now = read_at s.tags.items c.args.tag c.index.result.now low c.index.ensures in
    let p = last_issue es s.issued.items s.tags.items c.args.tag c.in-Some.place k.issued_are k.tags_are (kept ∙ ap Some c.in-Some.is) in
    let P : Traced → Type 0 = λ v. IsFlyingAt (issues_of v.events) c.in-Some.place c.args.tag in
    subst P c.self.view_is record { issue = p.0; there = ap (λ l. slice_get l c.in-Some.place) (sym k.issued_are) ∙ p.1; under = p.2.under; flies = (open_last s.setup es c.args.tag p.0 k.legal p.2).1 o }
