use Rattle.edd_figures.proofs.Within.{commands_in}
use Rattle.blk_judge.proofs.drawing.schedule_picture.Goals as goal

pub find_fault-requires-clause-commands_in : goal.find_fault-requires-clause-commands_in
find_fault-requires-clause-commands_in c = commands_in c.args.commands.now c.requires.taken
