use Rattle.blk_kyber.proofs.Numbers.{one_kept}
use Rattle.blk_kyber.proofs.Kyber.limit.Goals as goal

pub returns-clause-known : goal.returns-clause-known
returns-clause-known g c = one_kept
