use Rattle.std.proofs.Common.{ℕ, ◌≡◌, ◌==◌, ◌≤◌, ◌<◌, ◌++◌, false, drop, get_or}
use Rattle.blk_recorders.specs.Words.{fields, word_texts}
use Rattle.blk_recorders.proofs.words.cut_fields.Given as goal

-- the fields of what is left stand behind those that were cut
abbrev pub invariant-loop-place : goal.invariant-loop-place
invariant-loop-place l = record {
  begun : l.begin ≤ l.place;
  plain : (k : ℕ) → l.begin ≤ k → k < l.place → (get_or l.row k 0 == 44) ≡ false;
  same : word_texts l.cut.items ++ fields (drop l.begin l.row) ≡ fields l.row;
}
