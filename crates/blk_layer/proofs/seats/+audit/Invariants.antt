use Rattle.std.proofs.Common.{length}
use Rattle.blk_layer.proofs.seats.+audit.Given as goal

abbrev pub decreases-audit : goal.decreases-audit
decreases-audit g l = length l.workers.now
