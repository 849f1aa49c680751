use Rattle.std.proofs.Common.{◌≡◌, map, take}
use Rattle.blk_blame.specs.LateGroups.{late_group_by}
use Rattle.blk_blame.proofs.late_groups.late_groups_by.Given as goal

-- the processes so far
abbrev pub invariant-loop-key : goal.invariant-loop-key
invariant-loop-key l = l.late_groups.items ≡ map (late_group_by l.by l.requests) (take l.key-index l.keys)
