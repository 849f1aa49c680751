use Rattle.std.proofs.Common.{◌≡◌, map, take}
use Rattle.std.specs.Prelude.{fold}
use Rattle.clap.specs.Words.{app_of}
use Rattle.blk_args.specs.CommandLine.{with_one}
use Rattle.blk_args.specs.Inside.Tables.{subcommand_of}
use Rattle.blk_args.proofs.command.with_commands.Given as goal

abbrev pub invariant-loop-row : goal.invariant-loop-row
invariant-loop-row l = app_of l.grown ≡ fold (with_one l.names.all) (app_of l.fn.command) (map subcommand_of (take l.row-index l.rows))
