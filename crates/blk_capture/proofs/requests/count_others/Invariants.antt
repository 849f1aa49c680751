use Rattle.std.proofs.Common.{◌≡◌, ◌+◌, count_by, is_some, take}
use Rattle.blk_capture.specs.Settled.{is_absorbed}
use Rattle.blk_capture.proofs.requests.count_others.Given as goal

abbrev pub invariant-loop-place : goal.invariant-loop-place
invariant-loop-place l = record {
  sum : count_by is_some (take l.place l.places) + l.absorbed + l.left_out ≡ l.place;
  absorbed : l.absorbed ≡ count_by (λ q. is_absorbed q.stage) (take l.place l.requests);
}
