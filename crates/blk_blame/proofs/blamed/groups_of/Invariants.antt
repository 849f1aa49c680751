use Rattle.std.proofs.Common.{◌≡◌, ◌<◌, ℕ, length, get_or}
use Rattle.blk_blame.specs.Groups.{IsGroup}
use Rattle.blk_blame.specs.declared.late_groups.LateGroup.{LateGroup}
use Rattle.blk_blame.specs.declared.groups.Group.{Group}
use Rattle.blk_blame.proofs.blamed.groups_of.Given as goal

-- those so far
abbrev pub invariant-loop-late_group : goal.invariant-loop-late_group
invariant-loop-late_group l = record {
  each : length l.groups.items ≡ l.late_group-index;
  so_far : (k : ℕ) (e : Group) → k < l.late_group-index → (d : LateGroup) → IsGroup l.by l.requests l.account (get_or l.late_groups k d) (get_or l.groups.items k e);
}
