use Rattle.std.proofs.Common.{◌≡◌}
use Rattle.blk_layer_tests.proofs.drawn.play.Given as goal

abbrev pub invariant-loop : goal.invariant-loop
invariant-loop g l = (l.first.number ≡ l.fn.first.number) × (l.second.number ≡ l.fn.second.number) × (l.zero.tag_set ≡ l.fn.zero.tag_set) × (l.one.tag_set ≡ l.fn.one.tag_set)
