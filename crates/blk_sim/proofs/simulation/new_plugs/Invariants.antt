use Rattle.std.proofs.Common.{◌≡◌, [], replicate}
use Rattle.blk_queues.specs.Plugs.{Plug}
use Rattle.blk_sim.proofs.simulation.new_plugs.Given as goal

abbrev pub invariant-loop : goal.invariant-loop
invariant-loop g l = l.plugs.items ≡ replicate {A = Plug} l.counter (record { limits = l.limits; requests = [] })
