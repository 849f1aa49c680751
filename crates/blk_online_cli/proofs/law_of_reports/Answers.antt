use Rattle.blk_online_cli.proofs.Telling.{reports_again}
use Rattle.blk_online_cli.proofs.law_of_reports.Goals as goal

pub returns : goal.returns
returns c = reports_again
