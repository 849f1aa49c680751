use Rattle.std.proofs.Common.{subst}
use Rattle.blk_layer.specs.Seats.{HoldsItsTags}
use Rattle.blk_layer.proofs.Held.{tags_are}
use Rattle.blk_layer.proofs.seats.Worker.ran.Goals as goal

pub returns-clause-holds : goal.returns-clause-holds
returns-clause-holds g c =
    subst HoldsItsTags c.self.view_is (tags_are c.self.inside.seat.tags c.self.inside.hands.items c.self.invariant.marks)
