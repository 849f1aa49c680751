use Rattle.std.proofs.Common.{◌≡◌, nat_le, true, false, rules}
use Rattle.std.specs.List.Sorted.{IsPartitionPoint}
use Rattle.std.proofs.lemmas.List.Sorted.{IsPartitionPoint-from_clause, IsPartitionedBy-leb}
use Rattle.blk_capture.specs.Summaries.{out_by}
use Rattle.blk_capture.specs.declared.requests.CapturedRequest.{CapturedRequest}
use Rattle.blk_capture.proofs.Rounds.{count_parted}
use Rattle.blk_capture.proofs.summary.count_out.Goals as goal

pub returns : goal.returns
returns c =
    let parted : IsPartitionPoint (λ (r : CapturedRequest). nat_le r.dispatched c.args.time ≡ true) (λ (r : CapturedRequest). nat_le r.dispatched c.args.time ≡ false) c.args.requests.now c.partition_point.result =
    IsPartitionPoint-from_clause (out_by c.args.time) c.args.requests.now c.partition_point.result c.partition_point.ensures.partitioned (IsPartitionedBy-leb (λ (r : CapturedRequest). r.dispatched) c.args.requests.now c.args.time c.requires.rising) (search rules) in
    count_parted (out_by c.args.time) c.args.requests.now c.partition_point.result c.partition_point.ensures.bound parted
