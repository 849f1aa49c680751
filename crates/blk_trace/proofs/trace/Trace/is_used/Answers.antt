use Rattle.std.proofs.Common.{◌≡◌, ◌<◌, ◌==◌, ◌∙◌, ◌↔◌, IsTrue, List, Some, length, ap, sym, arith, subst}
use Rattle.std.specs.Prelude.{slice_get}
use Rattle.std.proofs.lemmas.Option.{slice_get_within}
use Rattle.blk_trace.specs.declared.issued.Issued.{Issued}
use Rattle.blk_trace.specs.Happened.{Happened}
use Rattle.blk_trace.specs.Events.{IsUsed}
use Rattle.blk_trace.specs.Traces.{Traced}
use Rattle.blk_trace.proofs.Last.{last_issue, used_last, none_used, read_at, read_same}
use Rattle.blk_trace.proofs.trace.Trace.is_used.Goals as goal

pub index-requires-in-Some : goal.index-requires-in-Some
index-requires-in-Some g c =
    let s = c.self.inside in
    let es : List Happened = s.events.items in
    let k = c.self.invariant.0 in
    let below : c.args.tag < s.setup.depth = subst (λ (v : Traced). c.args.tag < v.setup.depth) (sym c.self.view_is) c.requires in
    let low : c.args.tag < length s.tags.items = omega (arith, below, k.each_tag) in
    let kept : slice_get s.tags.items c.args.tag ≡ Some c.index.result.now = read_at s.tags.items c.args.tag c.index.result.now low c.index.ensures in
    let p = last_issue es s.issued.items s.tags.items c.args.tag c.in-Some.place k.issued_are k.tags_are (kept ∙ ap Some c.in-Some.is) in
    omega (arith, slice_get_within s.issued.items c.in-Some.place p.0 p.1, s.issued.ok.0)

pub returns-in-Some : goal.returns-in-Some
returns-in-Some g c =
    let s = c.self.inside in
    let es : List Happened = s.events.items in
    let k = c.self.invariant.0 in
    let below : c.args.tag < s.setup.depth = subst (λ (v : Traced). c.args.tag < v.setup.depth) (sym c.self.view_is) c.requires in
    let low : c.args.tag < length s.tags.items = omega (arith, below, k.each_tag) in
    let kept : slice_get s.tags.items c.args.tag ≡ Some c.index.result.now = read_at s.tags.items c.args.tag c.index.result.now low c.index.ensures in
    let p = last_issue es s.issued.items s.tags.items c.args.tag c.in-Some.place k.issued_are k.tags_are (kept ∙ ap Some c.in-Some.is) in
    let i : Issued = c.index-in-Some.result.now in
    let same : i ≡ p.0 = read_same s.issued.items c.in-Some.place i p.0 p.1 c.index-in-Some.ensures in
    let P : Traced → Type 0 = λ v. IsTrue (i.round == s.round) ↔ IsUsed v.events c.args.tag in
    subst P c.self.view_is (subst (λ (x : Issued). IsTrue (x.round == s.round) ↔ IsUsed es c.args.tag) (sym same) (used_last s.setup es c.args.tag s.round p.0 k.legal k.round_is p.2))

pub returns-in-None : goal.returns-in-None
returns-in-None g c =
    let s = c.self.inside in
    let es : List Happened = s.events.items in
    let k = c.self.invariant.0 in
    let below : c.args.tag < s.setup.depth = subst (λ (v : Traced). c.args.tag < v.setup.depth) (sym c.self.view_is) c.requires in
    let low : c.args.tag < length s.tags.items = omega (arith, below, k.each_tag) in
    let kept : slice_get s.tags.items c.args.tag ≡ Some c.index.result.now = read_at s.tags.items c.args.tag c.index.result.now low c.index.ensures in
    let P : Traced → Type 0 = λ v. IsUsed v.events c.args.tag → ⊥ in
    let none : P c.args.self.now = subst P c.self.view_is (none_used es s.issued.items s.tags.items c.args.tag k.issued_are k.tags_are (kept ∙ ap Some c.in-None.is)) in
    (λ t. absurd (cc), λ u. absurd (none u))
