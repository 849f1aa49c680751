use Rattle.std.proofs.Common.{◌≡◌, take, false}
use Rattle.std.specs.Prelude.{fold}
use Rattle.std.specs.List.{flat_map}
use Rattle.clap.specs.Words.{app_of, new_app}
use Rattle.clap.specs.declared.builder.command.Command.TheViews.{out-Command as fields_of}
use Rattle.blk_args.specs.CommandLine.{with_option}
use Rattle.blk_args.specs.Inside.Tables.{options_in}
use Rattle.blk_args.proofs.command.command_of.Given as goal

abbrev pub invariant-loop-group : goal.invariant-loop-group
invariant-loop-group l = record {
  app : app_of l.grown ≡ fold (with_option l.names.all) (new_app l.fn.row.name.now) (flat_map options_in (take l.group-index l.group-items));
  local : (fields_of l.grown).has_globals ≡ false;
}
