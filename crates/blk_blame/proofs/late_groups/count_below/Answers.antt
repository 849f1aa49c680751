use Rattle.std.proofs.Common.{ℕ, ◌≡◌, nat_lt, true, false, rules}
use Rattle.std.specs.List.Sorted.{IsPartitionPoint}
use Rattle.std.proofs.lemmas.List.Sorted.{IsPartitionPoint-from_clause, IsPartitionedBy-ltb}
use Rattle.blk_capture.proofs.Rounds.{count_parted}
use Rattle.blk_blame.proofs.late_groups.count_below.Goals as goal

pub returns : goal.returns
returns c =
    let parted : IsPartitionPoint (λ (x : ℕ). nat_lt x c.args.bound ≡ true) (λ (x : ℕ). nat_lt x c.args.bound ≡ false) c.args.numbers.now c.partition_point.result =
    IsPartitionPoint-from_clause (λ (x : ℕ). nat_lt x c.args.bound) c.args.numbers.now c.partition_point.result c.partition_point.ensures.partitioned (IsPartitionedBy-ltb (λ (x : ℕ). x) c.args.numbers.now c.args.bound c.requires) (search rules) in
    count_parted (λ (x : ℕ). nat_lt x c.args.bound) c.args.numbers.now c.partition_point.result c.partition_point.ensures.bound parted
