use Rattle.std.proofs.Common.{◌≡◌}
use Rattle.blk_load.proofs.serving.serve.Given as goal

abbrev pub invariant-loop : goal.invariant-loop
invariant-loop g l = l.seat.tag_set ≡ l.fn.seat.tag_set
