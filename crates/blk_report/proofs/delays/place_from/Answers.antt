use Rattle.std.proofs.Common.{◌≡◌, nat_lt, true, false, rules}
use Rattle.std.specs.List.Sorted.{IsPartitionPoint}
use Rattle.std.proofs.lemmas.List.Sorted.{IsPartitionPoint-from_clause}
use Rattle.blk_report.specs.declared.serving.Service.{Service}
use Rattle.blk_report.proofs.Waiting.{parted_at, from_here}
use Rattle.blk_report.proofs.delays.place_from.Goals as goal

pub returns : goal.returns
returns c =
    let parted : IsPartitionPoint (λ (s : Service). nat_lt s.issue c.args.round ≡ true) (λ (s : Service). nat_lt s.issue c.args.round ≡ false) c.args.services.now c.partition_point.result =
    IsPartitionPoint-from_clause (λ (s : Service). nat_lt s.issue c.args.round) c.args.services.now c.partition_point.result c.partition_point.ensures.partitioned (parted_at c.args.services.now c.args.round c.requires) (search rules) in
    from_here c.args.services.now c.args.round c.partition_point.result c.partition_point.ensures.bound parted
