use Rattle.std.proofs.Common.{◌≡◌, not, filter}
use Rattle.std.specs.List.{range_with_len}
use Rattle.edd_blame.specs.Parts.{is_late_at}
use Rattle.edd_blame.proofs.part.on_time_places.Given as goal

abbrev pub invariant-loop-place : goal.invariant-loop-place
invariant-loop-place g l = l.found.items ≡ filter (λ k. not (is_late_at l.commands l.rounds k)) (range_with_len 0 l.place)
