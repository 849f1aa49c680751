use Rattle.std.proofs.Common.{◌≡◌, ◌≤◌, drop}
use Rattle.blk_recorders.specs.Words.{behind_last_of}
use Rattle.blk_recorders.proofs.words.behind_last.Given as goal

abbrev pub invariant-loop-place : goal.invariant-loop-place
invariant-loop-place l = record {
  begun : l.begin ≤ l.place;
  same : behind_last_of l.byte (drop l.begin l.word) (drop l.place l.word) ≡ behind_last_of l.byte l.word l.word;
}
