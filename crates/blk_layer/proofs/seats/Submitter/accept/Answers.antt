use Rattle.std.proofs.Common.{sym, subst, ◌++◌}
use Rattle.blk_trace.specs.Events.{AreOnce}
use Rattle.blk_layer.specs.Seats.{SubmitterSeat}
use Rattle.blk_layer.proofs.seats.Submitter.accept.Goals as goal

pub add-requires : goal.add-requires
add-requires g c = subst (λ (s : SubmitterSeat). AreOnce (s.accepted ++ c.args.bios.now)) (sym c.self.view_is) c.requires.once
