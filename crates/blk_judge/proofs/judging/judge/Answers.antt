use Rattle.edd_figures.proofs.Within.{commands_in}
use Rattle.blk_judge.proofs.judging.judge.Goals as goal

pub find_fault-requires-clause-commands_in : goal.find_fault-requires-clause-commands_in
find_fault-requires-clause-commands_in g c = commands_in c.args.commands.now c.requires.taken
