use Rattle.std.proofs.Common.{[], ◌∷◌}
use Rattle.text_output.specs.Drafts.{draft_text}
use Rattle.blk_records.proofs.OnTimeLaws.{window_row}
use Rattle.blk_records.proofs.DraftLemmas.{IsSoFar}
use Rattle.blk_records.proofs.on_time.push_cover.Given as goal

abbrev pub invariant-loop-i : goal.invariant-loop-i
invariant-loop-i l = record {
  text : IsSoFar (λ w. window_row w ∷ []) (draft_text l.fn.draft) [] l.cover l.i (draft_text l.draft);
}
