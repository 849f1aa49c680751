use Rattle.std.proofs.Common.{arith}
use Rattle.blk_core.proofs.Opens.{open_by_dirs, open_listed}
use Rattle.blk_core.proofs.laws.open_picks_are_open_issues.Goals as goal

pub returns-clause-both : goal.returns-clause-both
returns-clause-both c setup events legal = open_by_dirs setup events legal

pub returns-clause-all : goal.returns-clause-all
returns-clause-all c setup events legal = open_listed setup events legal

pub returns-clause-picks : goal.returns-clause-picks
returns-clause-picks c setup events legal m requeue_lists holds =
    let both = open_by_dirs setup events legal in let reads = holds.reads in let writes = holds.writes in omega arith
