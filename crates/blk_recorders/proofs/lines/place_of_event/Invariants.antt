use Rattle.std.proofs.Common.{◌≡◌, drop}
use Rattle.blk_recorders.specs.Words.{word_texts}
use Rattle.blk_recorders.specs.Lines.{place_from, is_event}
use Rattle.blk_recorders.proofs.lines.place_of_event.Given as goal

abbrev pub invariant-loop-place : goal.invariant-loop-place
invariant-loop-place l = place_from is_event l.place (drop l.place (word_texts l.words)) ≡ place_from is_event 0 (word_texts l.words)
