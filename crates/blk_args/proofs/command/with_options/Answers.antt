use Rattle.std.proofs.Common.{◌∙◌, ap, rules}
use Rattle.clap.specs.Words.{app_of, with_rule}
use Rattle.blk_schedulers.specs.Options.{option_of}
use Rattle.blk_args.specs.CommandLine.{with_option}
use Rattle.blk_args.proofs.Grown.{one_more}
use Rattle.blk_args.proofs.command.with_options.Goals as goal

pub loop-row-preserved : goal.loop-row-preserved
loop-row-preserved c = record {
  app = one_more (with_option c.args.names.all) option_of _ _ _ _ _ _ c.loop-row-test.true c.loop-row.invariant.app
      (c.in_ok-grown.ensures.shape c.option_arg.ensures.local ∙ ap (with_rule (app_of c.loop-row.grown)) c.option_arg.ensures.rule);
  local = search rules;
}
