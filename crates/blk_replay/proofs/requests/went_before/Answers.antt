use Rattle.std.proofs.Common.{◌≡◌, true, false, rules}
use Rattle.std.specs.Prelude.{nat_lt}
use Rattle.std.specs.List.Sorted.{IsPartitionPoint}
use Rattle.std.proofs.lemmas.List.Sorted.{IsPartitionPoint-from_clause, IsPartitionedBy-ltb}
use Rattle.blk_capture.specs.declared.requests.CapturedRequest.{CapturedRequest}
use Rattle.blk_capture.proofs.Rounds.{count_parted}
use Rattle.blk_replay.specs.Requests.{went_before}
use Rattle.blk_replay.proofs.requests.went_before.Goals as goal

pub returns-clause-value : goal.returns-clause-value
unfolding went_before
returns-clause-value c =
    let parted : IsPartitionPoint (λ (r : CapturedRequest). nat_lt r.dispatched c.args.time ≡ true) (λ (r : CapturedRequest). nat_lt r.dispatched c.args.time ≡ false) c.args.requests.now c.partition_point.result =
    IsPartitionPoint-from_clause (λ (r : CapturedRequest). nat_lt r.dispatched c.args.time) c.args.requests.now c.partition_point.result c.partition_point.ensures.partitioned (IsPartitionedBy-ltb (λ (r : CapturedRequest). r.dispatched) c.args.requests.now c.args.time c.requires.rising) (search rules) in
    count_parted (λ (r : CapturedRequest). nat_lt r.dispatched c.args.time) c.args.requests.now c.partition_point.result c.partition_point.ensures.bound parted
