use Rattle.std.proofs.Common.{rules}
use Rattle.blk_blame.proofs.totals.least_of.Goals as goal

pub returns-clause-some : goal.returns-clause-some
returns-clause-some c = record { least = search rules; in_them = search rules }
