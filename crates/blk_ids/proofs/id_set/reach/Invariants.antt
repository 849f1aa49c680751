use Rattle.std.proofs.Common.{◌≡◌, ◌+◌, ◌-◌, ℕ, length}
use Rattle.blk_ids.specs.IdSet.{in_lists}
use Rattle.blk_ids.proofs.id_set.reach.Given as goal

-- the lists have what they had
abbrev pub invariant-loop-lists : goal.invariant-loop-lists
invariant-loop-lists g l = (s n : ℕ) → in_lists l.lists.items s n ≡ in_lists l.initial.lists.items s n

abbrev pub decreases-loop-lists : goal.decreases-loop-lists
decreases-loop-lists g l = l.submitter + 1 - length l.lists.items
