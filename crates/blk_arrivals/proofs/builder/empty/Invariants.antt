use Rattle.std.proofs.Common.{◌≡◌, ◌++◌, drop, replicate}
use Rattle.blk_arrivals.proofs.builder.empty.Given as goal

abbrev pub invariant-loop-count : goal.invariant-loop-count
invariant-loop-count l = l.held ≡ replicate l.count-index 0 ++ drop l.count-index l.initial.held
