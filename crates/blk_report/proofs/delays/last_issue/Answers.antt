use Rattle.std.proofs.Common.{length, refl}
use Rattle.blk_report.proofs.Waiting.{unserved, last_last}
use Rattle.blk_report.proofs.delays.last_issue.Goals as goal

pub returns-else-count-eq0-clause-last : goal.returns-else-count-eq0-clause-last
returns-else-count-eq0-clause-last c = λ k d h. last_last c.args.services.now (length c.args.services.now) refl c.requires.rising k d unserved h
