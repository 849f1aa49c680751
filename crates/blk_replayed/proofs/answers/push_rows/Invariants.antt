use Rattle.std.proofs.Common.{◌≡◌, ◌++◌, map, take}
use Rattle.blk_replayed.specs.Answers.{replay_row}
use Rattle.blk_replayed.proofs.answers.push_rows.Given as goal

-- the rows so far
abbrev pub invariant-loop-row : goal.invariant-loop-row
invariant-loop-row l = l.all.items ≡ l.fn.all.items ++ map (λ r. replay_row l.expiries r) (take l.row-index l.rows)
