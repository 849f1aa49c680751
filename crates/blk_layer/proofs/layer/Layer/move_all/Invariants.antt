use Rattle.blk_layer.proofs.Moved.{IsMoving}
use Rattle.blk_layer.proofs.layer.Layer.move_all.Given as goal

abbrev pub invariant-loop-moved : goal.invariant-loop-moved
invariant-loop-moved g l = IsMoving g.S.Scheduler.policy.serves l.initial.queue l.initial.core l.map l.moved l.queue l.core
