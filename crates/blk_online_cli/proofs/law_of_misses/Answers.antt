use Rattle.blk_online_cli.proofs.Telling.{misses_again}
use Rattle.blk_online_cli.proofs.law_of_misses.Goals as goal

pub returns : goal.returns
returns c = misses_again
