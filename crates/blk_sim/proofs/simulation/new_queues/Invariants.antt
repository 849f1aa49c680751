use Rattle.std.proofs.Common.{◌≡◌, [], replicate}
use Rattle.blk_queues.specs.Queues.{Queue}
use Rattle.blk_sim.proofs.simulation.new_queues.Given as goal

abbrev pub invariant-loop : goal.invariant-loop
invariant-loop g l = l.queues.items ≡ replicate {A = Queue} l.counter (record { depth = l.depth; limits = l.limits; requests = []; bios_in = 0; bios_out = 0 })
