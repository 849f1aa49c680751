use Rattle.std.proofs.Common.{◌≡◌, ◌<◌, ◌+◌, ℕ, length}
use Rattle.std.specs.Prelude.{Contains}
use Rattle.blk_tags.proofs.TagSet.join.Given as goal

abbrev pub invariant-loop-tag : goal.invariant-loop-tag
invariant-loop-tag g l = (l.other.of_set ≡ l.initial.other.of_set) × ((t : ℕ) → t < l.tag → ¬ Contains l.other.tags t) × (l.other.last ≡ l.initial.other.last)
    × (length l.other.steps + length l.other.tags ≡ length l.initial.other.steps + length l.initial.other.tags)
