use Rattle.std.proofs.Common.{◌≡◌, map, take, false}
use Rattle.std.specs.Prelude.{fold}
use Rattle.clap.specs.Words.{app_of}
use Rattle.clap.specs.declared.builder.command.Command.TheViews.{out-Command as fields_of}
use Rattle.blk_schedulers.specs.Options.{option_of}
use Rattle.blk_args.specs.CommandLine.{with_option}
use Rattle.blk_args.proofs.command.with_options.Given as goal

abbrev pub invariant-loop-row : goal.invariant-loop-row
invariant-loop-row l = record {
  app : app_of l.grown ≡ fold (with_option l.names.all) (app_of l.fn.command) (map option_of (take l.row-index l.rows));
  local : (fields_of l.grown).has_globals ≡ false;
}
