use Rattle.std.proofs.Common.{refl}
use Rattle.blk_load.proofs.Seated.{all_workers, all_submitters}
use Rattle.blk_load.proofs.running.on_layer.Goals as goal

pub run_beside-requires-clause-submitters : goal.run_beside-requires-clause-submitters
run_beside-requires-clause-submitters g c κs within =
    all_submitters _ _ _ c.in-Ok.made.0 c.new-site.result.layer c.in-Ok.made.1.items c.in-Ok.made.1.items _ c.in-Ok.ensures.made refl c.new-site.ensures

pub run_beside-requires-clause-workers : goal.run_beside-requires-clause-workers
run_beside-requires-clause-workers g c κs within =
    all_workers _ _ _ c.in-Ok.made.0 c.new-site.result.layer _ c.in-Ok.made.2.items c.in-Ok.made.2.items c.in-Ok.ensures.made refl c.new-site.ensures
