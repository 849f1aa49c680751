use Rattle.std.proofs.Common.{◌≡◌, map, take}
use Rattle.edd_blame.specs.Parts.{command_here}
use Rattle.edd_blame.proofs.part.commands_at.Given as goal

abbrev pub invariant-loop-place : goal.invariant-loop-place
invariant-loop-place g l = l.part.items ≡ map (command_here l.commands) (take l.place-index l.places)
