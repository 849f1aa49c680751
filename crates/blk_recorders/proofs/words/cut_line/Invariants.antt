use Rattle.std.proofs.Common.{ℕ, ◌≡◌, ◌==◌, ◌≤◌, ◌<◌, ◌++◌, false, drop, take, get_or, length}
use Rattle.blk_recorders.specs.Words.{is_blank, words, word_texts, line_between}
use Rattle.blk_recorders.proofs.words.cut_line.Given as goal

-- up to wherever the line ends, the words of what is left of it stand behind those that were cut
abbrev pub invariant-loop-place : goal.invariant-loop-place
invariant-loop-place l = record {
  from : l.from ≤ l.begin;
  begun : l.begin ≤ l.place;
  plain : (k : ℕ) → l.begin ≤ k → k < l.place → is_blank (get_or l.text k 0) ≡ false;
  unfed : (k : ℕ) → l.from ≤ k → k < l.place → (get_or l.text k 0 == 10) ≡ false;
  same : (e : ℕ) → l.place ≤ e → e ≤ length l.text → word_texts l.cut.items ++ words (drop l.begin (take e l.text)) ≡ words (line_between l.text l.from e);
}
