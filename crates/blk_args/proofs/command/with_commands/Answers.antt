use Rattle.std.proofs.Common.{◌∙◌, ap}
use Rattle.clap.specs.Words.{App, app_of, with_subcommand}
use Rattle.blk_args.specs.CommandLine.{with_one}
use Rattle.blk_args.specs.Inside.Tables.{subcommand_of}
use Rattle.blk_args.proofs.Grown.{one_more}
use Rattle.blk_args.proofs.command.with_commands.Goals as goal

pub loop-row-preserved : goal.loop-row-preserved
loop-row-preserved c =
    one_more (with_one c.args.names.all) subcommand_of _ _ _ _ _ _ c.loop-row-test.true c.loop-row.invariant
    (c.in_ok-grown.ensures.shape c.in_ok-command_of.ensures.local ∙ ap (λ (a : App). with_subcommand (app_of c.loop-row.grown) a.top) c.in_ok-command_of.ensures.app)
