use Rattle.std.proofs.Common.{◌≡◌}
use Rattle.blk_explain.proofs.refused.first_of.Given as goal

abbrev pub invariant-loop-n : goal.invariant-loop-n
invariant-loop-n l = l.records.at ≡ l.n
