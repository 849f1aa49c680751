use Rattle.blk_capture.specs.Requests.{AreInOrder}
use Rattle.blk_capture.proofs.requests.first_fall.Given as goal

abbrev pub invariant-loop-place : goal.invariant-loop-place
invariant-loop-place l = AreInOrder l.records l.place
