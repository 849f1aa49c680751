use Rattle.std.proofs.Common.{◌≡◌, ◌∙◌, sym}
use Rattle.blk_trace.specs.declared.known.Stage.TheVariants.{Waits, Gone, Requeued}
use Rattle.blk_trace.proofs.Knowing.{known_none, known_some, gone_out, all_requeued}
use Rattle.blk_trace.proofs.First.{issue_unknown, issue_already_issued}
use Rattle.blk_trace.proofs.trace.Trace.broken_issue.Goals as goal

pub returns-in_default-clause-some : goal.returns-in_default-clause-some
returns-in_default-clause-some g c = issue_unknown c.args.self.now.setup c.args.self.now.events c.args.id c.args.tag (known_none c.args.self.now.setup c.args.self.now.events c.args.id (sym c.known_at.ensures.value ∙ c.in_default.is))

pub returns-in-Gone-clause-some : goal.returns-in-Gone-clause-some
returns-in-Gone-clause-some g c =
    let k = known_some c.args.self.now.setup c.args.self.now.events c.args.id c.in-Some.known (sym c.known_at.ensures.value ∙ c.in-Some.is) in
    issue_already_issued c.args.self.now.setup c.args.self.now.events c.args.id c.args.tag k.released (gone_out c.args.self.now.setup c.args.self.now.events c.args.id c.in-Some.known k c.in-Gone.is)

pub broken_tag-requires : goal.broken_tag-requires
broken_tag-requires g c =
    let k = known_some c.args.self.now.setup c.args.self.now.events c.args.id c.in-Some.known (sym c.known_at.ensures.value ∙ c.in-Some.is) in
    record { released = k.released; waits = all_requeued c.args.self.now.setup c.args.self.now.events c.args.id c.in-Some.known k (λ h. let no : Gone ≡ Waits = sym h ∙ c.in-Waits.is in absurd (cc)) }

pub broken_tag-requires-in-Requeued : goal.broken_tag-requires-in-Requeued
broken_tag-requires-in-Requeued g c =
    let k = known_some c.args.self.now.setup c.args.self.now.events c.args.id c.in-Some.known (sym c.known_at.ensures.value ∙ c.in-Some.is) in
    record { released = k.released; waits = all_requeued c.args.self.now.setup c.args.self.now.events c.args.id c.in-Some.known k (λ h. let no : Gone ≡ Requeued = sym h ∙ c.in-Requeued.is in absurd (cc)) }
