use Rattle.std.proofs.Common.{◌≡◌, ◌<◌, ◌∙◌, List, Some, length, ap, refl, sym, arith, subst}
use Rattle.std.specs.Prelude.{slice_get}
use Rattle.std.proofs.lemmas.Option.{slice_get_within}
use Rattle.blk_trace.specs.declared.issued.Issued.{Issued}
use Rattle.blk_trace.specs.declared.issued.Outcome.TheVariants.{Flying, Done, Back}
use Rattle.blk_trace.specs.Happened.{Happened}
use Rattle.blk_trace.specs.Events.{IsOpen}
use Rattle.blk_trace.specs.Traces.{Traced}
use Rattle.blk_trace.proofs.Last.{last_issue, open_last, none_open, read_at, read_same}
use Rattle.blk_trace.proofs.trace.Trace.is_open.Goals as goal

pub index-requires-2 : goal.index-requires-2
index-requires-2 g c =
    let s = c.self.inside in
    let es : List Happened = s.events.items in
    let k = c.self.invariant.0 in
    let below : c.args.tag < s.setup.depth = subst (λ (v : Traced). c.args.tag < v.setup.depth) (sym c.self.view_is) c.requires in
    let low : c.args.tag < length s.tags.items = omega (arith, below, k.each_tag) in
    let kept : slice_get s.tags.items c.args.tag ≡ Some c.index.result.now = read_at s.tags.items c.args.tag c.index.result.now low c.index.ensures in
    let p = last_issue es s.issued.items s.tags.items c.args.tag c.in-Some.place k.issued_are k.tags_are (kept ∙ ap Some c.in-Some.is) in
    omega (arith, slice_get_within s.issued.items c.in-Some.place p.0 p.1, s.issued.ok.0)

pub returns-in_default : goal.returns-in_default
returns-in_default g c =
    let s = c.self.inside in
    let es : List Happened = s.events.items in
    let k = c.self.invariant.0 in
    let below : c.args.tag < s.setup.depth = subst (λ (v : Traced). c.args.tag < v.setup.depth) (sym c.self.view_is) c.requires in
    let low : c.args.tag < length s.tags.items = omega (arith, below, k.each_tag) in
    let kept : slice_get s.tags.items c.args.tag ≡ Some c.index.result.now = read_at s.tags.items c.args.tag c.index.result.now low c.index.ensures in
    let P : Traced → Type 0 = λ v. IsOpen v.events c.args.tag → ⊥ in
    let none : P c.args.self.now = subst P c.self.view_is (none_open es s.issued.items s.tags.items c.args.tag k.issued_are k.tags_are (kept ∙ ap Some c.in_default.is)) in
    (λ t. absurd (cc), λ o. absurd (none o))

pub returns-in-Flying : goal.returns-in-Flying
returns-in-Flying g c =
    let s = c.self.inside in
    let es : List Happened = s.events.items in
    let k = c.self.invariant.0 in
    let below : c.args.tag < s.setup.depth = subst (λ (v : Traced). c.args.tag < v.setup.depth) (sym c.self.view_is) c.requires in
    let low : c.args.tag < length s.tags.items = omega (arith, below, k.each_tag) in
    let kept : slice_get s.tags.items c.args.tag ≡ Some c.index.result.now = read_at s.tags.items c.args.tag c.index.result.now low c.index.ensures in
    let p = last_issue es s.issued.items s.tags.items c.args.tag c.in-Some.place k.issued_are k.tags_are (kept ∙ ap Some c.in-Some.is) in
    let i : Issued = c.index-2.result.now in
    let same : i ≡ p.0 = read_same s.issued.items c.in-Some.place i p.0 p.1 c.index-2.ensures in
    let is : p.0.outcome ≡ Flying = ap (λ (x : Issued). x.outcome) (sym same) ∙ c.in-Flying.is in
    let P : Traced → Type 0 = λ v. IsOpen v.events c.args.tag in
    let now : P c.args.self.now = subst P c.self.view_is ((open_last s.setup es c.args.tag p.0 k.legal p.2).0 is) in
    (λ _. now, λ _. refl)

pub returns-in-Done : goal.returns-in-Done
returns-in-Done g c =
    let s = c.self.inside in
    let es : List Happened = s.events.items in
    let k = c.self.invariant.0 in
    let below : c.args.tag < s.setup.depth = subst (λ (v : Traced). c.args.tag < v.setup.depth) (sym c.self.view_is) c.requires in
    let low : c.args.tag < length s.tags.items = omega (arith, below, k.each_tag) in
    let kept : slice_get s.tags.items c.args.tag ≡ Some c.index.result.now = read_at s.tags.items c.args.tag c.index.result.now low c.index.ensures in
    let p = last_issue es s.issued.items s.tags.items c.args.tag c.in-Some.place k.issued_are k.tags_are (kept ∙ ap Some c.in-Some.is) in
    let i : Issued = c.index-2.result.now in
    let same : i ≡ p.0 = read_same s.issued.items c.in-Some.place i p.0 p.1 c.index-2.ensures in
    let is : p.0.outcome ≡ Done = ap (λ (x : Issued). x.outcome) (sym same) ∙ c.in-Done.is in
    let P : Traced → Type 0 = λ v. IsOpen v.events c.args.tag → ⊥ in
    let none : P c.args.self.now = subst P c.self.view_is (λ o. let flying : p.0.outcome ≡ Flying = (open_last s.setup es c.args.tag p.0 k.legal p.2).1 o in absurd (cc)) in
    (λ t. absurd (cc), λ o. absurd (none o))

pub returns-in-Back : goal.returns-in-Back
returns-in-Back g c =
    let s = c.self.inside in
    let es : List Happened = s.events.items in
    let k = c.self.invariant.0 in
    let below : c.args.tag < s.setup.depth = subst (λ (v : Traced). c.args.tag < v.setup.depth) (sym c.self.view_is) c.requires in
    let low : c.args.tag < length s.tags.items = omega (arith, below, k.each_tag) in
    let kept : slice_get s.tags.items c.args.tag ≡ Some c.index.result.now = read_at s.tags.items c.args.tag c.index.result.now low c.index.ensures in
    let p = last_issue es s.issued.items s.tags.items c.args.tag c.in-Some.place k.issued_are k.tags_are (kept ∙ ap Some c.in-Some.is) in
    let i : Issued = c.index-2.result.now in
    let same : i ≡ p.0 = read_same s.issued.items c.in-Some.place i p.0 p.1 c.index-2.ensures in
    let is : p.0.outcome ≡ Back = ap (λ (x : Issued). x.outcome) (sym same) ∙ c.in-Back.is in
    let P : Traced → Type 0 = λ v. IsOpen v.events c.args.tag → ⊥ in
    let none : P c.args.self.now = subst P c.self.view_is (λ o. let flying : p.0.outcome ≡ Flying = (open_last s.setup es c.args.tag p.0 k.legal p.2).1 o in absurd (cc)) in
    (λ t. absurd (cc), λ o. absurd (none o))
