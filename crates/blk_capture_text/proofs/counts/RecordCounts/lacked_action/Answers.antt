use Rattle.std.proofs.Common.{◌∙◌}
use Rattle.blk_capture_text.specs.declared.counts.RecordCounts.{RecordCounts}
use Rattle.blk_capture_text.proofs.Doubting.{lacked_known, lacks_queue, lacks_get, lacks_issue, lacks_complete, lacks_none}
use Rattle.blk_capture_text.proofs.counts.RecordCounts.lacked_action.Goals as goal

pub returns-then-not-self : goal.returns-then-not-self
returns-then-not-self c =
    let k : RecordCounts = c.args.self.now in
    λ rs e. lacks_queue k.queues k.gets k.issues k.completes c.if-not-self.true ∙ lacked_known k rs e

pub returns-then-not-self-2 : goal.returns-then-not-self-2
returns-then-not-self-2 c =
    let k : RecordCounts = c.args.self.now in
    λ rs e. lacks_get k.queues k.gets k.issues k.completes c.if-not-self.false c.if-not-self-2.true ∙ lacked_known k rs e

pub returns-then-not-self-3 : goal.returns-then-not-self-3
returns-then-not-self-3 c =
    let k : RecordCounts = c.args.self.now in
    λ rs e. lacks_issue k.queues k.gets k.issues k.completes c.if-not-self.false c.if-not-self-2.false c.if-not-self-3.true ∙ lacked_known k rs e

pub returns-then-not-self-4 : goal.returns-then-not-self-4
returns-then-not-self-4 c =
    let k : RecordCounts = c.args.self.now in
    λ rs e. lacks_complete k.queues k.gets k.issues k.completes c.if-not-self.false c.if-not-self-2.false c.if-not-self-3.false c.if-not-self-4.true ∙ lacked_known k rs e

pub returns-else-not-self-4 : goal.returns-else-not-self-4
returns-else-not-self-4 c =
    let k : RecordCounts = c.args.self.now in
    λ rs e. lacks_none k.queues k.gets k.issues k.completes c.if-not-self.false c.if-not-self-2.false c.if-not-self-3.false c.if-not-self-4.false ∙ lacked_known k rs e
