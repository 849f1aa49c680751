use Rattle.std.proofs.Common.{ℕ, ◌<◌, ◌≤◌, get_or}
use Rattle.blk_queues.proofs.hardware.names_above.Given as goal

abbrev pub invariant-loop-hw : goal.invariant-loop-hw
invariant-loop-hw l = (k d : ℕ) → k < l.hw-index → get_or l.entries k d ≤ l.limit
