use Rattle.std.proofs.Common.{ℕ, ◌<◌, get_or}
use Rattle.blk_layer.proofs.layer.first_outside.Given as goal

abbrev pub invariant-loop-place : goal.invariant-loop-place
invariant-loop-place l = (k d : ℕ) → k < l.place → get_or l.queues k d < l.hw
