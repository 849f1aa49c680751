use Rattle.std.proofs.Common.{◌≡◌, nat_le, true, false, rules}
use Rattle.std.specs.List.Sorted.{IsPartitionPoint}
use Rattle.std.proofs.lemmas.List.Sorted.{IsPartitionPoint-from_clause, IsPartitionedBy-leb}
use Rattle.blk_capture.specs.declared.figures.Flight.{Flight}
use Rattle.blk_capture.proofs.Rounds.{count_parted}
use Rattle.blk_capture.proofs.figures.count_out.Goals as goal

pub returns-clause-value : goal.returns-clause-value
returns-clause-value c = λ rising.
    let parted : IsPartitionPoint (λ (f : Flight). nat_le f.time c.args.time ≡ true) (λ (f : Flight). nat_le f.time c.args.time ≡ false) c.args.flights.now c.partition_point.result =
    IsPartitionPoint-from_clause (λ (f : Flight). nat_le f.time c.args.time) c.args.flights.now c.partition_point.result c.partition_point.ensures.partitioned (IsPartitionedBy-leb (λ (f : Flight). f.time) c.args.flights.now c.args.time rising) (search rules) in
    count_parted (λ (f : Flight). nat_le f.time c.args.time) c.args.flights.now c.partition_point.result c.partition_point.ensures.bound parted
