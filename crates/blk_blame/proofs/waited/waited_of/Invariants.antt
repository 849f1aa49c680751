use Rattle.std.proofs.Common.{◌≡◌, drop, count_by}
use Rattle.std.specs.List.{range_with_len}
use Rattle.blk_blame.specs.Waited.{some_waits}
use Rattle.blk_blame.proofs.Waiting.{first_of}
use Rattle.blk_blame.proofs.waited.waited_of.Given as goal

-- how long one of those from this place on waited, and when the first of them came in
abbrev pub invariant-loop-place : goal.invariant-loop-place
invariant-loop-place l = record {
  so_far : l.waited ≡ count_by (some_waits (drop l.place l.requests)) (range_with_len 0 l.last);
  came_in : l.first ≡ first_of (drop l.place l.requests) l.last;
}
