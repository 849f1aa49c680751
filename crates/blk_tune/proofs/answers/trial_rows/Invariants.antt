use Rattle.std.proofs.Common.{◌≡◌, map, take}
use Rattle.blk_tune.specs.Answers.{trial_row}
use Rattle.blk_tune.proofs.answers.trial_rows.Given as goal

-- the rows so far
abbrev pub invariant-loop-row : goal.invariant-loop-row
invariant-loop-row l = l.all.items ≡ map (λ x. trial_row x) (take l.row-index l.rows)
