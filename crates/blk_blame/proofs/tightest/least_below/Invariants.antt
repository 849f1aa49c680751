use Rattle.std.proofs.Common.{◌≤◌, ◌<◌, ◌-◌, ℕ}
use Rattle.blk_blame.specs.Tightest.{IsLateEnough, IsTooSoon}
use Rattle.blk_blame.proofs.tightest.least_below.Given as goal

-- none below the one is long enough, and the other is
abbrev pub invariant-loop-low : goal.invariant-loop-low
invariant-loop-low l = record {
  order : l.low ≤ l.high;
  below : (own : ℕ) → own < l.low → IsTooSoon l.requests l.aim l.others own;
  enough : IsLateEnough l.requests l.aim l.others l.high;
}

abbrev pub decreases-loop-low : goal.decreases-loop-low
decreases-loop-low l = l.high - l.low
