use Rattle.std.proofs.Common.{ℕ, ◌≡◌, nat_le, true, false, rules}
use Rattle.std.specs.List.Sorted.{IsPartitionPoint}
use Rattle.std.proofs.lemmas.List.Sorted.{IsPartitionPoint-from_clause, IsPartitionedBy-leb}
use Rattle.blk_capture.proofs.Rounds.{count_parted}
use Rattle.blk_capture.proofs.summary.count_upto.Goals as goal

pub returns : goal.returns
returns c =
    let parted : IsPartitionPoint (λ (x : ℕ). nat_le x c.args.time ≡ true) (λ (x : ℕ). nat_le x c.args.time ≡ false) c.args.times.now c.partition_point.result =
    IsPartitionPoint-from_clause (λ (x : ℕ). nat_le x c.args.time) c.args.times.now c.partition_point.result c.partition_point.ensures.partitioned (IsPartitionedBy-leb (λ (x : ℕ). x) c.args.times.now c.args.time c.requires) (search rules) in
    count_parted (λ (x : ℕ). nat_le x c.args.time) c.args.times.now c.partition_point.result c.partition_point.ensures.bound parted
