use Rattle.blk_online_cli.proofs.Reporting.{none_avoidable}
use Rattle.blk_online_cli.proofs.simulating.law_of_none_avoidable.Goals as goal

pub returns : goal.returns
returns c = none_avoidable
