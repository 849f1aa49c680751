use Rattle.std.proofs.Common.{◌≡◌, drop}
use Rattle.blk_recorders.specs.Words.{word_texts}
use Rattle.blk_recorders.specs.Lines.{place_from, ends_with_byte}
use Rattle.blk_recorders.proofs.lines.place_of_command.Given as goal

abbrev pub invariant-loop-place : goal.invariant-loop-place
invariant-loop-place l = place_from (ends_with_byte 41) l.place (drop l.place (word_texts l.words)) ≡ place_from (ends_with_byte 41) l.from (drop l.from (word_texts l.words))
