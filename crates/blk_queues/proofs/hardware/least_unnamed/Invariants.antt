use Rattle.std.proofs.Common.{ℕ, ◌<◌}
use Rattle.std.specs.Prelude.{Contains}
use Rattle.blk_queues.proofs.hardware.least_unnamed.Given as goal

abbrev pub invariant-loop-hw : goal.invariant-loop-hw
invariant-loop-hw l = (hw : ℕ) → hw < l.hw → Contains l.entries hw
