-- Which replays are better.
use Rattle.std.specs.Prelude.{List}
use Rattle.std.specs.List.Sorted.{IsPermutation, IsSorted, IsStable}
use Rattle.std.specs.Option.{option_cmp}
use Rattle.std.specs.Ordering.{ordering_then, nat_cmp}
use Rattle.std.specs.declared.cmp.Ordering.{Ordering}
use Rattle.blk_schedulers.specs.declared.plans.ReplayBy.{ReplayBy}
use Rattle.blk_schedulers.specs.declared.plans.ReplayBy.TheVariants as by
use Rattle.blk_replayed.specs.declared.row.ReplayRow.{ReplayRow}

abbrev pub late_cmp : ReplayRow → ReplayRow → Ordering
late_cmp x y = nat_cmp x.late y.late

abbrev pub greatest_cmp : ReplayRow → ReplayRow → Ordering
greatest_cmp x y = nat_cmp x.clock.greatest y.clock.greatest

-- a figure that isn't there is the least
abbrev pub read_p99_cmp : ReplayRow → ReplayRow → Ordering
read_p99_cmp x y = option_cmp nat_cmp x.clock.reads.p99 y.clock.reads.p99

abbrev pub write_p99_cmp : ReplayRow → ReplayRow → Ordering
write_p99_cmp x y = option_cmp nat_cmp x.clock.writes.p99 y.clock.writes.p99

-- the better one is the less: by what is asked first, of how many were late, how late the latest was and how long reads waited, then by the others
-- in this order, then by how long writes waited
abbrev pub better_cmp : ReplayBy → ReplayRow → ReplayRow → Ordering
better_cmp by.Late x y = ordering_then (ordering_then (ordering_then (late_cmp x y) (greatest_cmp x y)) (read_p99_cmp x y)) (write_p99_cmp x y)
better_cmp by.Lateness x y = ordering_then (ordering_then (ordering_then (greatest_cmp x y) (late_cmp x y)) (read_p99_cmp x y)) (write_p99_cmp x y)
better_cmp by.ReadP99 x y = ordering_then (ordering_then (ordering_then (read_p99_cmp x y) (late_cmp x y)) (greatest_cmp x y)) (write_p99_cmp x y)

-- the same rows, the best first; those that are as good in the order that they had
pub record AreBetterFirst (b : ReplayBy) (before after : List ReplayRow) : Type 0 where
  pub same : IsPermutation before after
  pub sorted : IsSorted (better_cmp b) after
  pub stable : IsStable (better_cmp b) before after
