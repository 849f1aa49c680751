use Rattle.std.proofs.Common.{◌≡◌, nat_lt, true, false, rules}
use Rattle.std.specs.List.Sorted.{IsPartitionPoint}
use Rattle.std.proofs.lemmas.List.Sorted.{IsPartitionPoint-from_clause}
use Rattle.edd_oracle.specs.declared.cover.Served.{Served}
use Rattle.edd_verdict.proofs.Parting.{dues_parted, due_place}
use Rattle.edd_verdict.proofs.tight.later_than.Goals as goal

pub returns : goal.returns
returns c =
    let parted : IsPartitionPoint (λ (p : Served). nat_lt c.args.due p.due ≡ true) (λ (p : Served). nat_lt c.args.due p.due ≡ false) c.args.peaks.now c.partition_point.result =
    IsPartitionPoint-from_clause (λ (p : Served). nat_lt c.args.due p.due) c.args.peaks.now c.partition_point.result c.partition_point.ensures.partitioned (dues_parted c.args.peaks.now c.args.due c.requires) (search rules) in
    due_place c.args.peaks.now c.args.due c.partition_point.result c.partition_point.ensures.bound parted
