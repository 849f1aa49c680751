use Rattle.std.proofs.Common.{◌≡◌, nat_lt, true, false, rules}
use Rattle.std.specs.List.Sorted.{IsPartitionPoint}
use Rattle.std.proofs.lemmas.List.Sorted.{IsPartitionPoint-from_clause}
use Rattle.edd_check.specs.declared.Window.{Window}
use Rattle.edd_verdict.proofs.Parting.{begins_parted, begin_place}
use Rattle.edd_verdict.proofs.around.begun_before.Goals as goal

pub returns : goal.returns
returns c =
    let parted : IsPartitionPoint (λ (w : Window). nat_lt w.from c.args.round ≡ true) (λ (w : Window). nat_lt w.from c.args.round ≡ false) c.args.windows.now c.partition_point.result =
    IsPartitionPoint-from_clause (λ (w : Window). nat_lt w.from c.args.round) c.args.windows.now c.partition_point.result c.partition_point.ensures.partitioned (begins_parted c.args.windows.now c.args.round c.requires) (search rules) in
    begin_place c.args.windows.now c.args.round c.partition_point.result c.partition_point.ensures.bound parted
