use Rattle.blk_online_cli.proofs.Reporting.{no_shortfall}
use Rattle.blk_online_cli.proofs.simulating.law_of_no_shortfall.Goals as goal

pub returns : goal.returns
returns c = no_shortfall
