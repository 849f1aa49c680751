use Rattle.std.proofs.Common.{◌≤◌, length}
use Rattle.blk_lanes.specs.declared.draw.TheConstants.{MAX_PANELS}
use Rattle.blk_lanes.proofs.draw.worst.Given as goal

-- no more than are drawn
abbrev pub invariant-loop-time : goal.invariant-loop-time
invariant-loop-time l = length l.intervals.items ≤ MAX_PANELS
