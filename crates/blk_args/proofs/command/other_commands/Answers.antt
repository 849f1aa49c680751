use Rattle.std.proofs.Common.{List, ap, map}
use Rattle.blk_args.specs.Inside.Tables.{subcommand_of}
use Rattle.blk_args.specs.declared.table.CommandRow.{CommandRow}
use Rattle.blk_args.proofs.command.other_commands.Goals as goal

pub returns : goal.returns
returns c = ap (λ (rows : List CommandRow). map subcommand_of rows) c.as_slice.ensures
