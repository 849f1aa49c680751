use Rattle.blk_online.proofs.Least.{earliest_least}
use Rattle.blk_online.proofs.law_of_earliest_due_first.Goals as goal

pub returns : goal.returns
returns c = earliest_least
