use Rattle.blk_layer_tests.proofs.Seated.{workers_in, submitters_in}
use Rattle.blk_layer_tests.proofs.many.at_once.Goals as goal

pub both-requires-clause-submitters : goal.both-requires-clause-submitters
both-requires-clause-submitters g c κs within =
    submitters_in _ _ _ c.in-Ok.layer c.in-Ok.submitters.items c.as_mut_slice.result.now _ c.in-Ok.ensures.made c.as_mut_slice.ensures.value

pub both-requires-clause-workers : goal.both-requires-clause-workers
both-requires-clause-workers g c κs within =
    workers_in _ _ _ c.in-Ok.layer _ c.in-Ok.workers.items c.as_mut_slice-2.result.now c.in-Ok.ensures.made c.as_mut_slice-2.ensures.value
