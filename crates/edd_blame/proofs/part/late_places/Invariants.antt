use Rattle.std.proofs.Common.{◌≡◌, filter, take}
use Rattle.edd_blame.specs.Parts.{is_late_at}
use Rattle.edd_blame.proofs.part.late_places.Given as goal

abbrev pub invariant-loop-place : goal.invariant-loop-place
invariant-loop-place g l = l.found.items ≡ filter (is_late_at l.commands l.rounds) (take l.place-index l.places)
