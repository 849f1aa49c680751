use Rattle.std.proofs.Common.{◌≡◌, ℕ, length}
use Rattle.std.specs.Prelude.{slice_get, Some}
use Rattle.blk_queues.specs.Queues.{Queue}
use Rattle.blk_sim.specs.Moves.{DrainInTurn}
use Rattle.blk_sim.proofs.rounds.drain_all.Given as goal

abbrev pub invariant-loop-hw : goal.invariant-loop-hw
invariant-loop-hw g l = record {
  drained : DrainInTurn g.S.Scheduler.policy l.initial.core.setup.hw l.hw l.initial.queues.items l.initial.core l.queues.items l.core;
  setup : l.core.setup ≡ l.initial.core.setup;
  as_many : length l.queues.items ≡ length l.initial.queues.items;
  limits : (s : ℕ) (queue : Queue) → slice_get l.queues.items s ≡ Some queue → queue.limits ≡ l.initial.core.setup.limits;
}
