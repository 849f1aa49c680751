use Rattle.std.proofs.Common.{◌≡◌}
use Rattle.blk_layer_tests.proofs.listed.first_other.Given as goal

abbrev pub invariant-loop-place : goal.invariant-loop-place
invariant-loop-place g l = (l.first.number ≡ l.fn.first.number) × (l.second.number ≡ l.fn.second.number) × (l.plug_first.limits ≡ l.fn.plug_first.limits) × (l.plug_second.limits ≡ l.fn.plug_second.limits) × (l.zero.tag_set ≡ l.fn.zero.tag_set) × (l.one.tag_set ≡ l.fn.one.tag_set)
