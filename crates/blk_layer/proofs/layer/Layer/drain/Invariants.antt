use Rattle.std.proofs.Common.{◌≤◌, ◌*◌}
use Rattle.blk_layer.proofs.layer.Layer.drain.Given as goal

abbrev pub invariant-loop-soft : goal.invariant-loop-soft
invariant-loop-soft g l = l.moved ≤ l.soft * 1024
