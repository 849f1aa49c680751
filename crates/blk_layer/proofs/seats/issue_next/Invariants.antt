use Rattle.std.proofs.Common.{◌≡◌, ◌+◌, ◌≤◌, length}
use Rattle.blk_layer.specs.Inside.Next.{IsNoNext}
use Rattle.blk_layer.proofs.seats.issue_next.Given as goal

abbrev pub invariant-loop : goal.invariant-loop
invariant-loop g l = record {
  set : l.seat.of_set ≡ l.initial.seat.of_set;
  tags : l.seat.tags ≡ l.initial.seat.tags;
  core : l.core.core ≡ l.initial.core.core;
  tries : length l.initial.seat.steps + l.counter ≤ length l.seat.steps;
  last : IsNoNext g.S.Scheduler.policy l.initial.core.core l.hw l.last l.initial.core.core;
}
