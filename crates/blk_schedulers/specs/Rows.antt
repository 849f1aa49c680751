-- The table of schedulers, and the order of trials.
pub mod None
pub mod Deadline
pub mod Kyber
pub mod Earliest
use Rattle.std.specs.Prelude.{ℕ, ◌==◌, ◌∷◌, List, [], filter, length, map}
use Rattle.std.specs.List.{flat_map, position_or_len, range_with_len}
use Rattle.std.specs.Str.{bytes_eq}
use Rattle.blk_schedulers.specs.Row.{RowOf, SchedOf}
use Rattle.blk_schedulers.specs.Rows.None.{none_sched}
use Rattle.blk_schedulers.specs.Rows.Deadline.{deadline_sched}
use Rattle.blk_schedulers.specs.Rows.Kyber.{kyber_sched}
use Rattle.blk_schedulers.specs.Rows.Earliest.{earliest_sched}
use Rattle.blk_schedulers.specs.declared.rows.SchedKind.{SchedKind}
use Rattle.blk_schedulers.specs.declared.rows.SchedKind.TheVariants as kind

-- each scheduler, and all in the order in which they are named and compared
abbrev pub sched_for : SchedKind → SchedOf
sched_for kind.None = none_sched
sched_for kind.Deadline = deadline_sched
sched_for kind.Kyber = kyber_sched
sched_for kind.Earliest = earliest_sched

abbrev pub kinds : List SchedKind
kinds = kind.None ∷ kind.Deadline ∷ kind.Kyber ∷ kind.Earliest ∷ []

-- their rows, which are the table; and the place of one in it, by its name
abbrev pub row_for : SchedKind → RowOf
row_for k = (sched_for k).row

abbrev pub sched_table : List RowOf
sched_table = map row_for kinds

abbrev pub sched_place : SchedKind → ℕ
sched_place k = position_or_len (λ r. bytes_eq (row_for k).name r.name) sched_table

-- the schedulers of a place in the order of trials, and all in that order
abbrev pub kinds_at : ℕ → List SchedKind
kinds_at place = map (λ r. r.kind) (filter (λ r. r.tried == place) sched_table)

abbrev pub tried_kinds : List SchedKind
tried_kinds = flat_map kinds_at (range_with_len 0 (length kinds))
