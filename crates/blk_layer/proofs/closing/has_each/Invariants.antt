use Rattle.std.proofs.Common.{ℕ, ◌<◌}
use Rattle.blk_layer.specs.Closing.{HasNumber}
use Rattle.blk_layer.proofs.closing.has_each.Given as goal

abbrev pub invariant-loop-number : goal.invariant-loop-number
invariant-loop-number g l = (k : ℕ) → k < l.number → HasNumber l.submitters k
