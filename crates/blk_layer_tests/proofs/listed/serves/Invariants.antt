use Rattle.std.proofs.Common.{◌≡◌}
use Rattle.blk_layer_tests.proofs.listed.serves.Given as goal

abbrev pub invariant-loop : goal.invariant-loop
invariant-loop g l = l.worker.tag_set ≡ l.fn.worker.tag_set
