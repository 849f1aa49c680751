use Rattle.std.proofs.Common.{◌≡◌, ◌<◌, ◌≤◌, ◌-◌, ℕ, None, length, get_or}
use Rattle.blk_index.proofs.lane.first_of_run.Given as goal

-- those before it have no key
abbrev pub invariant-loop-index : goal.invariant-loop-index
invariant-loop-index g l = record {
  bound : l.index ≤ length l.run.items;
  none : (k : ℕ) → k < l.index → get_or l.run.items k None ≡ None;
}

abbrev pub decreases-loop-index : goal.decreases-loop-index
decreases-loop-index g l = length l.run.items - l.index
