use Rattle.std.proofs.Common.{[], ◌∷◌, decimal, length, take}
use Rattle.std.specs.Prelude.{All}
use Rattle.blk_text.specs.Inside.BioTable.{bio_row}
use Rattle.blk_text.specs.Inside.TraceRecords.{word_row}
use Rattle.blk_text.specs.TraceRecords.{BioFits}
use Rattle.blk_records.proofs.DraftLemmas.{IsSoFar}
use Rattle.text_output.specs.Drafts.{draft_text}
use Rattle.blk_text.proofs.heads.push_group.Given as goal

abbrev pub invariant-loop-i : goal.invariant-loop-i
invariant-loop-i g l = record {
  text : IsSoFar (λ b. bio_row b ∷ []) (draft_text l.fn.draft) (word_row l.fn.kind.word (decimal l.fn.id) (decimal (length l.bios)) ∷ []) l.bios l.i (draft_text l.draft);
  fits : All BioFits (take l.i l.bios);
}
