use Rattle.std.proofs.Common.{◌≡◌, map, take}
use Rattle.edd_figures.specs.Misses.{crowd_of}
use Rattle.edd_figures.proofs.missing.crowds.Given as goal

abbrev pub invariant-loop-place : goal.invariant-loop-place
invariant-loop-place g l = l.crowds.items ≡ map (λ w. crowd_of l.commands l.capacity w) (take l.place l.cover)
