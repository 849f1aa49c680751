use Rattle.blk_deadline.proofs.Numbers.{one_kept}
use Rattle.blk_deadline.proofs.Deadline.new.Goals as goal

pub returns-clause-known : goal.returns-clause-known
returns-clause-known g c = one_kept
