use Rattle.std.proofs.Common.{◌≡◌, ◌+◌, length}
use Rattle.std.specs.Prelude.{sum_by}
use Rattle.blk_sim.proofs.Chains.{IsMoved}
use Rattle.blk_sim.proofs.steps.drain_queue.Given as goal

abbrev pub invariant-loop-request : goal.invariant-loop-request
invariant-loop-request g l = record {
  moved : IsMoved g.S.Scheduler.policy l.hw l.initial.queue.requests l.queue.requests l.initial.core l.core;
  setup : l.core.setup ≡ l.initial.core.setup;
  limits : l.queue.limits ≡ l.initial.queue.limits;
  depth : l.queue.depth ≡ l.initial.queue.depth;
  came : l.queue.bios_in ≡ l.initial.queue.bios_in;
  counted : l.queue.bios_out + sum_by length l.queue.requests ≡ l.initial.queue.bios_out + sum_by length l.initial.queue.requests;
}

abbrev pub decreases-loop-request : goal.decreases-loop-request
decreases-loop-request g l = length l.queue.requests
