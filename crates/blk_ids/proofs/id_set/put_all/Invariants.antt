use Rattle.std.proofs.Common.{◌≡◌, ◌||◌, ℕ, take}
use Rattle.std.specs.List.{list_any}
use Rattle.blk_ids.specs.IdSet.{in_lists, is_pair}
use Rattle.blk_ids.proofs.id_set.put_all.Given as goal

-- the lists have what they had, and the ids so far
abbrev pub invariant-loop-id : goal.invariant-loop-id
invariant-loop-id g l = (s n : ℕ) → in_lists l.lists.items s n ≡ in_lists l.initial.lists.items s n || list_any (λ p. is_pair p s n) (take l.id-index l.late)
