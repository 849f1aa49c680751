use Rattle.blk_online.proofs.Least.{due_first_least}
use Rattle.blk_online.proofs.Most.{due_first_most}
use Rattle.blk_online.proofs.law_of_ties.Goals as goal

pub returns : goal.returns
returns c = record { least = due_first_least; most = due_first_most }
