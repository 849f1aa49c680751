use Rattle.std.proofs.Common.{◌≡◌, ◌<◌, ℕ, length, get_or}
use Rattle.edd_commands.specs.Capacity.{carried}
use Rattle.blk_report.proofs.delays.sums_upto.Given as goal

-- a sum for each round so far
abbrev pub invariant-loop-round : goal.invariant-loop-round
invariant-loop-round g l = record {
  so_far : l.sum ≡ carried l.capacity 0 l.round;
  each : length l.sums.items ≡ l.round;
  at : (x : ℕ) → x < l.round → get_or l.sums.items x 0 ≡ carried l.capacity 0 x;
}
