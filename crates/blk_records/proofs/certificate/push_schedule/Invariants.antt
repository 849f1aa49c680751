use Rattle.std.proofs.Common.{[], ◌∷◌}
use Rattle.std.specs.List.{zip}
use Rattle.text_output.specs.Drafts.{draft_text}
use Rattle.blk_records.specs.Certificate.{served_cells}
use Rattle.blk_records.specs.Tables.{row_by}
use Rattle.blk_records.proofs.DraftLemmas.{IsSoFar}
use Rattle.blk_records.proofs.certificate.push_schedule.Given as goal

abbrev pub invariant-loop-i : goal.invariant-loop-i
invariant-loop-i l = record {
  text : IsSoFar (λ s. row_by served_cells s ∷ []) (draft_text l.fn.draft) [] (zip l.commands l.rounds) l.i (draft_text l.draft);
}
