use Rattle.std.proofs.Common.{List, ◌↔◌, IsTrue, subst, ◌∙◌}
use Rattle.blk_bio.specs.Bios.{Bio}
use Rattle.blk_trace.specs.Events.{HasId}
use Rattle.blk_layer.proofs.Ids.{has_id}
use Rattle.blk_layer.proofs.accounts.Account.has.Goals as goal

pub returns-clause-value : goal.returns-clause-value
returns-clause-value g c =
    let P : List Bio → Type 0 = λ v. IsTrue c.contains.result ↔ HasId v c.args.id in
    subst P c.self.view_is (has_id c.self.inside.bios.items c.args.id c.contains.result (c.contains.ensures ∙ c.self.invariant.ids_are c.args.id))
