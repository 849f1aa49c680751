use Rattle.std.proofs.Common.{subst}
use Rattle.blk_queues.specs.Maps.{IsHwCount}
use Rattle.blk_queues.proofs.hardware.Map.hw_count.Goals as goal

pub returns-clause-value : goal.returns-clause-value
returns-clause-value g c =
    subst (λ m. IsHwCount m c.self.inside.hw_count) c.self.view_is c.self.invariant.is_count
