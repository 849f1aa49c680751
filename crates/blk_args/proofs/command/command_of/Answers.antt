use Rattle.std.proofs.Common.{rules}
use Rattle.blk_args.specs.CommandLine.{with_option}
use Rattle.blk_args.specs.Inside.Tables.{options_in}
use Rattle.blk_args.proofs.Grown.{part_more}
use Rattle.blk_args.proofs.command.command_of.Goals as goal

pub loop-group-preserved : goal.loop-group-preserved
loop-group-preserved c = record {
  app = part_more (with_option c.args.names.all) options_in _ _ _ _ _ _ c.loop-group-test.true c.loop-group.invariant.app c.in_ok-grown.ensures.app;
  local = search rules;
}
