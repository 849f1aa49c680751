use Rattle.edd_figures.proofs.Within.{commands_in}
use Rattle.edd_figures.proofs.lateness.figures_of.Goals as goal

pub compared-requires-clause-commands_in : goal.compared-requires-clause-commands_in
compared-requires-clause-commands_in g c = commands_in c.args.commands.now c.requires.taken
