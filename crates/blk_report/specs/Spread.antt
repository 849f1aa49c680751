-- How long commands waited and how late they were, by quantiles.
use Rattle.std.specs.Prelude.{ℕ, ◌≡◌, ◌+◌, ◌-◌, ◌*◌, ◌/◌, ◌≤◌, ◌<◌, Bool, not, List, [], length, map, filter, count_by, slice_get, Option, None, Some, ℤ, pos, ◌-ℤ◌, IsPermutation, ◌∷◌}
use Rattle.std.specs.List.Sorted.{IsSorted}
use Rattle.std.specs.Ordering.{int_cmp, is_lt}
use Rattle.blk_bio.specs.declared.bio.Dir.TheVariants.{Read, Write}
use Rattle.blk_trace.specs.Setups.{same_dir}
use Rattle.blk_report.specs.declared.serving.Service.{Service}
use Rattle.blk_report.specs.declared.spreading.Quantiles.{Quantiles}
use Rattle.blk_report.specs.declared.spreading.ByDir.{ByDir}
use Rattle.blk_report.specs.declared.spreading.Spreads.{Spreads}
use Rattle.answer.specs.declared.names.TheConstants as names
use Rattle.answer.specs.declared.answer.Part.{Part}
use Rattle.answer.specs.declared.answer.Part.TheVariants.{Group}
use Rattle.answer.specs.declared.answer.Entry.{Entry}
use Rattle.answer.specs.declared.value.Value.{Value}
use Rattle.answer.specs.declared.value.Value.TheVariants.{Count}
use Rattle.answer.specs.declared.cells.Column.{Column}
use Rattle.answer.specs.declared.cells.Layout.TheVariants as layout
use Rattle.answer.specs.Parts.{column, record_columns, signed}

-- how many rounds it waited for its Issue, and how many rounds after its due round that came
abbrev pub wait_of : Service → ℤ
wait_of s = pos s.issue -ℤ pos s.release

abbrev pub late_by : Service → ℤ
late_by s = pos s.issue -ℤ pos s.due

-- the nearest rank: a share of n in thousandths, rounded up
abbrev pub nearest_rank : ℕ → ℕ → ℕ
nearest_rank thousandths n = (thousandths * n + 999) / 1000

-- the one at that rank of sorted numbers, counted from 1; None where there are none
abbrev pub at_rank : ℕ → List ℤ → Option ℤ
at_rank thousandths sorted = slice_get sorted (nearest_rank thousandths (length sorted) - 1)

-- how many numbers in their order there are, and their quantiles
abbrev pub quantiles_of : List ℤ → Quantiles
quantiles_of sorted = record {
  count = length sorted;
  p50 = at_rank 500 sorted;
  p90 = at_rank 900 sorted;
  p99 = at_rank 990 sorted;
  p999 = at_rank 999 sorted;
  max = at_rank 1000 sorted;
}

abbrev pub is_less : ℤ → ℤ → Bool
is_less x y = is_lt (int_cmp x y)

-- at least this share of the numbers, in thousandths, are no greater than q, and fewer are less
pub record HasShare (thousandths : ℕ) (values : List ℤ) (q : ℤ) : Type 0 where
  pub within : thousandths * length values ≤ 1000 * count_by (λ x. not (is_less q x)) values
  pub below : 1000 * count_by (λ x. is_less x q) values < thousandths * length values

-- the one with this share, if there are numbers
abbrev pub IsShare : ℕ → List ℤ → Option ℤ → Type 0
IsShare thousandths values None = values ≡ []
IsShare thousandths values (Some q) = HasShare thousandths values q

-- each quantile has its share of the numbers
pub record HaveShares (values : List ℤ) (q : Quantiles) : Type 0 where
  pub p50 : IsShare 500 values q.p50
  pub p90 : IsShare 900 values q.p90
  pub p99 : IsShare 990 values q.p99
  pub p999 : IsShare 999 values q.p999
  pub max : IsShare 1000 values q.max

-- those of the numbers, put in their order, each with its share
pub record IsQuantiles (values : List ℤ) (q : Quantiles) : Type 0 where
  pub sorted : List ℤ
  pub same : IsPermutation values sorted
  pub rising : IsSorted int_cmp sorted
  pub are : q ≡ quantiles_of sorted
  pub shares : HaveShares values q

-- of the reads, of the writes and of all
pub record AreQuantiles (f : Service → ℤ) (services : List Service) (b : ByDir) : Type 0 where
  pub reads : IsQuantiles (map f (filter (λ s. same_dir s.dir Read) services)) b.reads
  pub writes : IsQuantiles (map f (filter (λ s. same_dir s.dir Write) services)) b.writes
  pub all : IsQuantiles (map f services) b.all

-- how long these commands waited and how late they were
pub record AreSpreads (services : List Service) (s : Spreads) : Type 0 where
  pub wait : AreQuantiles wait_of services s.wait
  pub lateness : AreQuantiles late_by services s.lateness

-- quantiles of reads, of writes and of both
abbrev pub quantiles_row : Quantiles → List Value
quantiles_row q = Count q.count ∷ signed q.p50 ∷ signed q.p90 ∷ signed q.p99 ∷ signed q.p999 ∷ signed q.max ∷ []

abbrev pub quantiles_columns : List Column
quantiles_columns =
    column layout.Comma names.COUNT.now ∷ column layout.Comma names.P50.now ∷ column layout.Comma names.P90.now ∷ column layout.Comma names.P99.now
    ∷ column layout.Comma names.P999.now ∷ column layout.Comma names.MAX.now ∷ []

abbrev pub quantiles_entries : ByDir → List Entry
quantiles_entries b =
    record { name = names.READS.now; row = quantiles_row b.reads } ∷ record { name = names.WRITES.now; row = quantiles_row b.writes }
    ∷ record { name = names.ALL.now; row = quantiles_row b.all } ∷ []

-- how waits and latenesses are spread
abbrev pub spread_head : List Column
spread_head =
    record_columns (names.WHAT.now ∷ names.DIR.now ∷ names.COUNT.now ∷ names.P50.now ∷ names.P90.now ∷ names.P99.now ∷ names.P999.now ∷ names.MAX.now ∷ [])

abbrev pub spread_parts : Spreads → List Part
spread_parts s =
    Group (record { name = names.WAIT.now; head = spread_head; columns = quantiles_columns; entries = quantiles_entries s.wait })
    ∷ Group (record { name = names.LATENESS.now; head = []; columns = quantiles_columns; entries = quantiles_entries s.lateness }) ∷ []
