use Rattle.std.proofs.Common.{◌≡◌, ◌≤◌, ◌*◌, ◌^◌, take, sum_by}
use Rattle.blk_blame.specs.Stages.{way_time}
use Rattle.blk_blame.proofs.stages.stage_sum.Given as goal

-- that of those so far
abbrev pub invariant-loop-request : goal.invariant-loop-request
invariant-loop-request l = record {
  so_far : l.sum ≡ sum_by (way_time l.dir l.stage) (take l.request-index l.requests);
  small : l.sum ≤ l.request-index * 2 ^ 64;
}
