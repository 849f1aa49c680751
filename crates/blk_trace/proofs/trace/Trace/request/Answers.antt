use Rattle.std.proofs.Common.{◌∙◌, ap, sym}
use Rattle.blk_trace.specs.declared.known.Known.{Known}
use Rattle.blk_trace.proofs.Ids.{released_first}
use Rattle.blk_trace.proofs.Knowing.{known_none, known_some}
use Rattle.blk_trace.proofs.trace.Trace.request.Goals as goal

pub returns-in_default-clause-none : goal.returns-in_default-clause-none
returns-in_default-clause-none g c = known_none c.args.self.now.setup c.args.self.now.events c.args.id (sym c.known_at.ensures.value ∙ c.in_default.is)

pub returns-in_default-clause-issued : goal.returns-in_default-clause-issued
returns-in_default-clause-issued g c = released_first c.args.self.now.setup c.args.self.now.events c.args.id c.known_at.ensures.legal

pub returns-clause-some : goal.returns-clause-some
returns-clause-some g c = let k = known_some c.args.self.now.setup c.args.self.now.events c.args.id c.in-Some.known (sym c.known_at.ensures.value ∙ c.in-Some.is) in (k.released, ap (λ (x : Known). x.entry) k.is)

pub returns-clause-issued : goal.returns-clause-issued
returns-clause-issued g c = released_first c.args.self.now.setup c.args.self.now.events c.args.id c.known_at.ensures.legal
