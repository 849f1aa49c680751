use Rattle.std.proofs.Common.{◌≡◌, ◌≤◌, length}
use Rattle.blk_layer.specs.declared.batch.TheConstants.{MAX_BATCH}
use Rattle.blk_layer.specs.Inside.Serving.{IsServing}
use Rattle.blk_layer.proofs.layer.Layer.serve.Given as goal

abbrev pub invariant-loop-served : goal.invariant-loop-served
invariant-loop-served g l = record {
  serving : IsServing l.initial.worker l.batch l.worker;
  ran : l.ran ≤ length l.batch;
  few : length l.batch ≤ MAX_BATCH;
  same_set : l.worker.tag_set ≡ l.initial.worker.tag_set;
}
