use Rattle.std.proofs.Common.{ℕ, ◌≡◌, ◌<◌, take, length, get_or}
use Rattle.blk_picture.specs.Columns.{in_column}
use Rattle.blk_picture.proofs.columns.counts.Given as goal

abbrev pub invariant-loop-round : goal.invariant-loop-round
invariant-loop-round l = record {
  each : length l.counts.items ≡ l.columns;
  so_far : (c : ℕ) → c < l.columns → get_or l.counts.items c 0 ≡ in_column l.per c (take l.round-index l.rounds);
}
