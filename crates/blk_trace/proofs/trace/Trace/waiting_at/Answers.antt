use Rattle.std.proofs.Common.{◌∙◌, ap, sym, cond, Some, None}
use Rattle.blk_trace.specs.declared.known.Stage.{Stage}
use Rattle.blk_trace.specs.Inside.Kept.{has_gone}
use Rattle.blk_trace.proofs.Knowing.{known_waiting}
use Rattle.blk_trace.proofs.trace.Trace.waiting_at.Goals as goal

pub returns-in_default : goal.returns-in_default
returns-in_default g c = sym (known_waiting c.args.self.now.setup c.args.self.now.events c.args.id None (sym c.known_at.ensures.value ∙ c.in_default.is))

pub returns-in-Gone : goal.returns-in-Gone
returns-in-Gone g c = sym (known_waiting c.args.self.now.setup c.args.self.now.events c.args.id (Some c.in-Some.known) (sym c.known_at.ensures.value ∙ c.in-Some.is) ∙ ap (λ (s : Stage). cond (has_gone s) None (Some c.in-Some.known.entry)) c.in-Gone.is)

pub returns-in-Waits : goal.returns-in-Waits
returns-in-Waits g c = sym (known_waiting c.args.self.now.setup c.args.self.now.events c.args.id (Some c.in-Some.known) (sym c.known_at.ensures.value ∙ c.in-Some.is) ∙ ap (λ (s : Stage). cond (has_gone s) None (Some c.in-Some.known.entry)) c.in-Waits.is)

pub returns-in-Requeued : goal.returns-in-Requeued
returns-in-Requeued g c = sym (known_waiting c.args.self.now.setup c.args.self.now.events c.args.id (Some c.in-Some.known) (sym c.known_at.ensures.value ∙ c.in-Some.is) ∙ ap (λ (s : Stage). cond (has_gone s) None (Some c.in-Some.known.entry)) c.in-Requeued.is)
