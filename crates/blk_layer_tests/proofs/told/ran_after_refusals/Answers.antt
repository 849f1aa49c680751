use Rattle.std.proofs.Common.{subst}
use Rattle.blk_layer.specs.Closing.{IsCloseRefusal}
use Rattle.blk_layer_tests.proofs.Seated.{workers_back}
use Rattle.blk_layer_tests.proofs.told.ran_after_refusals.Goals as goal

pub last-worker-requires : goal.last-worker-requires
last-worker-requires g c =
    let once = c.in-Err-Whole-SeatMissing-default-default-default in
    let twice = c.in-Err-Whole-Memory-default-default-default in
    workers_back c.in-Ok.layer once.layer twice.layer c.args.worker_queues.items c.in-Ok.workers.items twice.workers.items _ _ _ _ _ c.in-Ok.ensures.made.each_worker
    (subst (IsCloseRefusal _ _ _ _) once.field-0-is once.ensures.refused) (subst (IsCloseRefusal _ _ _ _) twice.field-0-is twice.ensures.refused)
