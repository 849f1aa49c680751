use Rattle.std.proofs.Common.{◌≡◌, map, take}
use Rattle.blk_blame.specs.EachSaid.{each_row}
use Rattle.blk_blame.proofs.each_said.each_rows.Given as goal

-- the rows so far
abbrev pub invariant-loop-late : goal.invariant-loop-late
invariant-loop-late l = l.rows.items ≡ map (λ x. each_row l.begin l.requests x) (take l.late-index l.lates)
