use Rattle.std.proofs.Common.{rules}
use Rattle.blk_args.proofs.command.run_commands.Goals as goal

pub returns : goal.returns
returns c = search rules
