use Rattle.std.proofs.Common.{◌≡◌, ℕ, ◌≤◌, ◌<◌, ◌⊎◌, length, get_or}
use Rattle.blk_core.specs.declared.tags.TagState.TheVariants.{Free}
use Rattle.blk_core.proofs.tags.clear.Given as goal

abbrev pub invariant-loop-tag : goal.invariant-loop-tag
invariant-loop-tag l = (k : ℕ) → k < length l.tags → (k < l.tag) ⊎ (l.fn.bound ≤ k) → get_or l.tags k Free ≡ Free
