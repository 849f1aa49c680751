use Rattle.std.proofs.Common.{◌≡◌, drop}
use Rattle.blk_recorders.specs.Words.{word_texts}
use Rattle.blk_recorders.specs.Lines.{place_from, is_cpu}
use Rattle.blk_recorders.proofs.lines.place_of_cpu.Given as goal

abbrev pub invariant-loop-place : goal.invariant-loop-place
invariant-loop-place l = place_from is_cpu l.place (drop l.place (word_texts l.words)) ≡ place_from is_cpu 0 (word_texts l.words)
