use Rattle.blk_online_cli.proofs.Running.{script_holds}
use Rattle.blk_online_cli.proofs.simulating.law_of_rounds_under_earliest.Goals as goal

pub returns : goal.returns
returns c = script_holds
