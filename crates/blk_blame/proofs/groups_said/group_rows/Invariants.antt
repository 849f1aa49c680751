use Rattle.std.proofs.Common.{◌≡◌, map, take}
use Rattle.blk_blame.specs.GroupsSaid.{group_row}
use Rattle.blk_blame.proofs.groups_said.group_rows.Given as goal

-- the rows so far
abbrev pub invariant-loop-group : goal.invariant-loop-group
invariant-loop-group l = l.rows.items ≡ map (λ x. group_row x) (take l.group-index l.groups)
