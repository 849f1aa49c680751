use Rattle.std.proofs.Common.{◌≡◌, map, take}
use Rattle.blk_blame.specs.Answers.{stall_row}
use Rattle.blk_blame.proofs.answers.stall_rows.Given as goal

-- the rows so far
abbrev pub invariant-loop-stall : goal.invariant-loop-stall
invariant-loop-stall l = l.rows.items ≡ map (λ x. stall_row l.begin l.requests x) (take l.stall-index l.stalls)
