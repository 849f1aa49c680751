use Rattle.blk_online.proofs.AtIssues.{made, legal, earliest, late, on_time_first, missed}
use Rattle.blk_online.proofs.law_of_issues.Goals as goal

pub returns : goal.returns
returns c = record { legal = (made, legal); earliest = earliest; late = late; on_time_first = on_time_first; missed = missed }
