use Rattle.std.specs.FinMap as map
use Rattle.std.proofs.Common.{◌≡◌, ℕ, Some}
use Rattle.blk_bio.specs.Extents.{FitAt}
use Rattle.blk_sched.specs.Meaning.{Waiting}
use Rattle.blk_index.specs.Inside.Search.{IsPassed, count_below}
use Rattle.blk_index.proofs.index.newest_of.Given as goal

-- the newcomer fits none of the requests that were passed
abbrev pub invariant-loop-id : goal.invariant-loop-id
invariant-loop-id g l = (k : ℕ) (w : Waiting) → IsPassed l.below k → map.get l.waiting k ≡ Some w → FitAt l.limits w.extent l.newcomer l.side → ⊥

abbrev pub decreases-loop-id : goal.decreases-loop-id
decreases-loop-id g l = count_below l.below
