use Rattle.std.proofs.Common.{[], ◌∷◌}
use Rattle.blk_records.specs.Commands.{command_cells, depth_number}
use Rattle.blk_records.specs.Tables.{row_by}
use Rattle.blk_records.specs.Titles.{title_by}
use Rattle.blk_records.specs.declared.commands.TheConstants.{COMMANDS}
use Rattle.blk_records.proofs.DraftLemmas.{IsSoFar}
use Rattle.text_output.specs.Drafts.{draft_text}
use Rattle.blk_records.proofs.commands.commands_text.Given as goal

abbrev pub invariant-loop-i : goal.invariant-loop-i
invariant-loop-i l = record {
  text : IsSoFar (λ c. row_by command_cells c ∷ []) [] (title_by COMMANDS depth_number (COMMANDS.latest, l.fn.depth) ∷ []) l.commands l.i (draft_text l.draft);
}
