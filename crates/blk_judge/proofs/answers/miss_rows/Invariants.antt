use Rattle.std.proofs.Common.{◌≡◌, map, take}
use Rattle.blk_judge.specs.Answers.{miss_row}
use Rattle.blk_judge.proofs.answers.miss_rows.Given as goal

-- the rows so far
abbrev pub invariant-loop-miss : goal.invariant-loop-miss
invariant-loop-miss l = l.rows.items ≡ map (λ x. miss_row x) (take l.miss-index l.misses)
