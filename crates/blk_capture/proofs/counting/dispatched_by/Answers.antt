use Rattle.std.proofs.Common.{◌≡◌, nat_le, true, false, rules}
use Rattle.std.specs.List.Sorted.{IsPartitionPoint}
use Rattle.std.proofs.lemmas.List.Sorted.{IsPartitionPoint-from_clause, IsPartitionedBy-leb}
use Rattle.blk_capture.specs.Counting.{dispatched_by}
use Rattle.blk_capture.specs.declared.counting.TimedRequest.{TimedRequest}
use Rattle.blk_capture.proofs.Rounds.{count_parted}
use Rattle.blk_capture.proofs.counting.dispatched_by.Goals as goal

pub returns-clause-value : goal.returns-clause-value
unfolding dispatched_by
returns-clause-value c =
    let parted : IsPartitionPoint (λ (r : TimedRequest). nat_le r.dispatch c.args.time ≡ true) (λ (r : TimedRequest). nat_le r.dispatch c.args.time ≡ false) c.args.requests.now c.partition_point.result =
    IsPartitionPoint-from_clause (λ (r : TimedRequest). nat_le r.dispatch c.args.time) c.args.requests.now c.partition_point.result c.partition_point.ensures.partitioned (IsPartitionedBy-leb (λ (r : TimedRequest). r.dispatch) c.args.requests.now c.args.time c.requires.rising) (search rules) in
    count_parted (λ (r : TimedRequest). nat_le r.dispatch c.args.time) c.args.requests.now c.partition_point.result c.partition_point.ensures.bound parted
