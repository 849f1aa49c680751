use Rattle.std.proofs.Common.{◌↔◌, IsTrue, subst, ◌∙◌}
use Rattle.blk_trace.specs.Traces.{Traced, HasBio}
use Rattle.blk_trace.proofs.Newness.{has_bio}
use Rattle.blk_trace.proofs.trace.Trace.has_bio.Goals as goal

pub returns : goal.returns
returns g c =
    let P : Traced → Type 0 = λ v. IsTrue c.contains.result ↔ HasBio v.events c.args.id in
    let inner : P record { setup = c.self.inside.setup; events = c.self.inside.events.items; prepared = c.self.inside.prepared } = has_bio c.self.inside.events.items c.args.id c.contains.result (c.contains.ensures ∙ c.self.invariant.0.ids_are c.args.id) in
    subst P c.self.view_is inner
