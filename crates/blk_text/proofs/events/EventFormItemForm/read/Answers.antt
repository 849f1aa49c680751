use Rattle.std.specs.Prelude.{Err}
use Rattle.blk_trace.specs.Traces.{IsPushAnswer}
use Rattle.blk_trace.specs.declared.rule.PushFault.TheVariants as push_fault
use Rattle.blk_text.proofs.EventLaws.{event_fails, event_gathers, rule_fails}
use Rattle.blk_text.proofs.events.EventFormItemForm.read.Goals as goal

pub returns-in-Err-clause-err : goal.returns-in-Err-clause-err
returns-in-Err-clause-err g c =
    λ k. event_fails c.args.self.now.head.version c.args.self.now.setup c.args.items.now.events _ c.args.records.now.left c.args.records.now.fields c.args.records.now.at c.in-Err.fault.at c.in-Err.fault.why (rw c.limits.ensures at c.in-Err.ensures.err)

pub returns-in_default-clause-ok : goal.returns-in_default-clause-ok
returns-in_default-clause-ok g c =
    λ k. event_gathers c.args.self.now.head.version c.args.self.now.setup c.args.items.now c.push.new.self c.args.records.now.left c.read_event.new.records.left c.args.records.now.fields c.in-Ok.event c.args.records.now.at c.read_event.new.records.at
    k c.in_default.ensures.answer (rw c.limits.ensures at c.in-Ok.ensures.fits) (rw c.limits.ensures at c.in-Ok.ensures.ok) c.in-Ok.ensures.end

pub returns-in-Rule-clause-err : goal.returns-in-Rule-clause-err
returns-in-Rule-clause-err g c =
    let answer : IsPushAnswer c.args.items.now c.in-Ok.event c.push.new.self (Err (c.in-Err-push.field-0-0, push_fault.Rule c.in-Rule.rule)) = rw c.in-Rule.is at c.in-Err-push.ensures.answer in
    λ k. rule_fails c.args.self.now.head.version c.args.self.now.setup c.args.items.now.events _ c.args.records.now.left _ c.args.records.now.fields c.in-Ok.event c.args.records.now.at c.at-at.result c.in-Rule.rule
    (rw c.limits.ensures at c.in-Ok.ensures.ok) (rw k at answer.1) c.at-at.ensures
