use Rattle.std.proofs.Common.{◌≡◌, ◌≤◌, ◌<◌, ℕ, length, get_or}
use Rattle.blk_report.specs.Inside.Below.{number_below}
use Rattle.blk_report.proofs.below.counts_below.Given as goal

-- a count for each place so far
abbrev pub invariant-loop-number : goal.invariant-loop-number
invariant-loop-number g l = record {
  few : l.count ≤ l.number-index;
  so_far : l.count ≡ number_below l.numbers l.pivot l.number-index;
  each : length l.counts.items ≡ l.number-index;
  at : (i : ℕ) → i < l.number-index → get_or l.counts.items i 0 ≡ number_below l.numbers l.pivot i;
}
