use Rattle.std.proofs.Common.{[], ◌∷◌, arith}
use Rattle.text_output.specs.Drafts.{draft_text}
use Rattle.blk_records.proofs.DraftLemmas.{none_first, one_more, whole}
use Rattle.blk_text.specs.StepRecords.{step_row}
use Rattle.blk_arrivals.proofs.text.push_lines.Goals as goal

pub loop-line-init : goal.loop-line-init
loop-line-init c = none_first (draft_text c.args.draft.now)

pub loop-line-preserved : goal.loop-line-preserved
loop-line-preserved c =
    one_more (λ x. step_row x ∷ []) (draft_text c.args.draft.now) [] c.args.lines.now c.loop-line.line-index c.line-item.result (draft_text c.loop-line.draft) (draft_text c.push_step.new.draft) c.loop-line-test.true c.line-item.is
    c.loop-line.invariant
    c.in_ok-push_step.ensures

pub returns : goal.returns
returns c = whole step_row (draft_text c.args.draft.now) [] c.args.lines.now c.loop-line.line-index (draft_text c.loop-line.draft) (omega arith) c.loop-line.invariant
