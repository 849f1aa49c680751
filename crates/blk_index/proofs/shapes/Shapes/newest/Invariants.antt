use Rattle.std.proofs.Common.{◌<◌, ◌≤◌, ◌/◌, ℕ}
use Rattle.std.specs.Prelude.{IfSome}
use Rattle.blk_index.specs.Inside.Spots.{IsBelow}
use Rattle.blk_index.specs.Inside.Shapes.{entries_in, IsSpan, IsIn, StandsBetween}
use Rattle.blk_index.proofs.shapes.Shapes.newest.Given as goal

-- what wasn't looked at yet lies below the end
abbrev pub invariant-loop-end : goal.invariant-loop-end
invariant-loop-end g l = record {
  low : IfSome l.best (IsBelow l.below);
  size : IsSpan l.span;
  rest : (k s b : ℕ) → StandsBetween l.below l.best k → IsIn (entries_in l.self) l.place (b, s) k → s ≤ l.sectors → b ≤ l.bios → b / l.span < l.end;
}

abbrev pub decreases-loop-end : goal.decreases-loop-end
decreases-loop-end g l = l.end
