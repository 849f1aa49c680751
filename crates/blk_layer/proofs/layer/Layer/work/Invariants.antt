use Rattle.blk_layer.specs.Serving.{RunsMore}
use Rattle.blk_layer.proofs.layer.Layer.work.Given as goal

abbrev pub invariant-loop-passed : goal.invariant-loop-passed
invariant-loop-passed g l = RunsMore l.initial.worker l.worker
