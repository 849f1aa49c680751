use Rattle.blk_layer_tests.proofs.Seated.{all_of}
use Rattle.blk_layer_tests.proofs.closed.followed.Goals as goal

pub last-one-requires : goal.last-one-requires
last-one-requires g c = all_of c.in-Ok.made.0 _ c.in-Ok.made.2.items c.in-Ok.ensures.made.each_worker
