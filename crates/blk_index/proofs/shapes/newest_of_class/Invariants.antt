use Rattle.std.proofs.Common.{◌<◌, ◌≤◌, ◌/◌, ℕ}
use Rattle.std.specs.Prelude.{IfSome}
use Rattle.ordered.specs.Ordered.{listed}
use Rattle.blk_index.specs.Inside.Spots.{IsBelow}
use Rattle.blk_index.specs.Inside.Entries.{entry_cmp}
use Rattle.blk_index.specs.Inside.Shapes.{IsUnit, IsInClass, StandsBetween}
use Rattle.blk_index.proofs.shapes.newest_of_class.Given as goal

-- what wasn't looked at yet lies below the end
abbrev pub invariant-loop-end : goal.invariant-loop-end
invariant-loop-end g l = record {
  low : IfSome l.best (IsBelow l.below);
  size : IsUnit l.unit;
  small : l.end < 65536;
  rest : (k s : ℕ) → StandsBetween l.below l.best k → IsInClass (listed entry_cmp l.entries) l.class s k → s ≤ l.sectors → s / l.unit < l.end;
}

abbrev pub decreases-loop-end : goal.decreases-loop-end
decreases-loop-end g l = l.end
