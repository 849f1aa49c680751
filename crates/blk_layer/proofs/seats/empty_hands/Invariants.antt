use Rattle.std.proofs.Common.{◌≡◌, replicate, None}
use Rattle.blk_layer.proofs.seats.empty_hands.Given as goal

abbrev pub invariant-loop : goal.invariant-loop
invariant-loop g l = l.hands.items ≡ replicate l.counter None
