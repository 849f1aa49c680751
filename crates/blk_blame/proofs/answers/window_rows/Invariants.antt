use Rattle.std.proofs.Common.{◌≡◌, map, take}
use Rattle.blk_blame.specs.Answers.{window_row}
use Rattle.blk_blame.proofs.answers.window_rows.Given as goal

-- the rows so far
abbrev pub invariant-loop-crowd : goal.invariant-loop-crowd
invariant-loop-crowd l = l.rows.items ≡ map (λ x. window_row l.begin l.requests x) (take l.crowd-index l.crowds)
