-- Which rows are better.
use Rattle.std.specs.Prelude.{List}
use Rattle.std.specs.List.Sorted.{IsPermutation, IsSorted, IsStable}
use Rattle.std.specs.Option.{option_cmp}
use Rattle.std.specs.Ordering.{ordering_then, nat_cmp, int_cmp}
use Rattle.std.specs.declared.cmp.Ordering.{Ordering}
use Rattle.blk_schedulers.specs.declared.grid.RankBy.{RankBy}
use Rattle.blk_schedulers.specs.declared.grid.RankBy.TheVariants as by
use Rattle.edd_figures.specs.Figures.{shortfall_in}
use Rattle.blk_tune.specs.declared.row.TrialRow.{TrialRow}

abbrev pub avoidable_cmp : TrialRow → TrialRow → Ordering
avoidable_cmp x y = nat_cmp x.tally.avoidable y.tally.avoidable

-- a figure that isn't there is the least
abbrev pub shortfall_cmp : TrialRow → TrialRow → Ordering
shortfall_cmp x y = option_cmp int_cmp (shortfall_in x.report.figures) (shortfall_in y.report.figures)

abbrev pub reads_cmp : TrialRow → TrialRow → Ordering
reads_cmp x y = option_cmp int_cmp x.wait_read y.wait_read

abbrev pub writes_cmp : TrialRow → TrialRow → Ordering
writes_cmp x y = option_cmp int_cmp x.wait_write y.wait_write

-- the better one is the less: by what is avoidable and then by the shortfall, or the other way round; then by the reads' waits, then by
-- the writes'
abbrev pub best_cmp : RankBy → TrialRow → TrialRow → Ordering
best_cmp by.Misses x y = ordering_then (ordering_then (ordering_then (avoidable_cmp x y) (shortfall_cmp x y)) (reads_cmp x y)) (writes_cmp x y)
best_cmp by.Lateness x y = ordering_then (ordering_then (ordering_then (shortfall_cmp x y) (avoidable_cmp x y)) (reads_cmp x y)) (writes_cmp x y)

-- the same rows, the best first; those that are as good in the order that they had
pub record AreBestFirst (b : RankBy) (before after : List TrialRow) : Type 0 where
  pub same : IsPermutation before after
  pub sorted : IsSorted (best_cmp b) after
  pub stable : IsStable (best_cmp b) before after
