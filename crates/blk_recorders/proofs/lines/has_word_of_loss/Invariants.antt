use Rattle.std.proofs.Common.{◌≡◌, drop}
use Rattle.std.specs.List.{list_any}
use Rattle.blk_recorders.specs.Words.{word_texts}
use Rattle.blk_recorders.specs.Lines.{is_of_loss}
use Rattle.blk_recorders.proofs.lines.has_word_of_loss.Given as goal

abbrev pub invariant-loop-place : goal.invariant-loop-place
invariant-loop-place l = list_any is_of_loss (drop l.place (word_texts l.words)) ≡ list_any is_of_loss (word_texts l.words)
