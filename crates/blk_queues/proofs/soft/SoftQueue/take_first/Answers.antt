use Rattle.std.proofs.Common.{ap}
use Rattle.blk_queues.proofs.Counts.{taken_kept}
use Rattle.blk_queues.proofs.soft.SoftQueue.take_first.Goals as goal

pub invariant_of-self-2 : goal.invariant_of-self-2
invariant_of-self-2 g c =
    taken_kept record { depth = c.self.inside.ring.capacity; limits = c.self.inside.limits; requests = c.self.inside.ring.items; bios_in = c.self.inside.bios_in; bios_out = c.self.inside.bios_out } c.in_ok-first.first c.bios.result.now c.pop_front.new.self.items c.pop_front.new.self.capacity c.self.invariant c.in_ok-first.ensures.value (ap (λ b. b.items) c.pop_front.ensures.items) (ap (λ b. b.capacity) c.pop_front.ensures.items) c.bios.ensures.bios
