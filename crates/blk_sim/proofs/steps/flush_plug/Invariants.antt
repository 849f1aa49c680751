use Rattle.std.proofs.Common.{◌≡◌, ◌+◌, ◌++◌, ◌≤◌, length}
use Rattle.blk_sim.specs.Moves.{bios_in}
use Rattle.blk_sim.proofs.steps.flush_plug.Given as goal

abbrev pub invariant-loop-request : goal.invariant-loop-request
invariant-loop-request g l = record {
  moved : l.queue.requests ++ l.plug.requests ≡ l.initial.queue.requests ++ l.initial.plug.requests;
  plug_limits : l.plug.limits ≡ l.initial.plug.limits;
  limits : l.queue.limits ≡ l.initial.queue.limits;
  depth : l.queue.depth ≡ l.initial.queue.depth;
  out : l.queue.bios_out ≡ l.initial.queue.bios_out;
  counted : l.queue.bios_in + length (bios_in l.plug.requests) ≡ l.initial.queue.bios_in + length (bios_in l.initial.plug.requests);
  room : length l.queue.requests ≤ l.queue.depth;
}

abbrev pub decreases-loop-request : goal.decreases-loop-request
decreases-loop-request g l = length l.plug.requests
