use Rattle.edd_blame.proofs.Beside.{late_all}
use Rattle.edd_blame.proofs.part.late_places.Goals as goal

pub returns : goal.returns
returns g c = late_all c.args.commands.now c.args.rounds.now c.args.places.now c.loop-place.place-index c.loop-place.found.items c.loop-place-test.false c.loop-place.invariant
