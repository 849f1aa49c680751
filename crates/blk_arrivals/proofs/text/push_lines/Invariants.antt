use Rattle.std.proofs.Common.{[], ◌∷◌}
use Rattle.text_output.specs.Drafts.{draft_text}
use Rattle.blk_records.proofs.DraftLemmas.{IsSoFar}
use Rattle.blk_text.specs.StepRecords.{step_row}
use Rattle.blk_arrivals.proofs.text.push_lines.Given as goal

abbrev pub invariant-loop-line : goal.invariant-loop-line
invariant-loop-line l = IsSoFar (λ x. step_row x ∷ []) (draft_text l.fn.draft) [] l.lines l.line-index (draft_text l.draft)
