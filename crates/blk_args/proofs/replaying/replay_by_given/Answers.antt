use Rattle.std.proofs.Common.{Some}
use Rattle.clap.specs.Words.{found_of}
use Rattle.blk_schedulers.specs.declared.plans.ReplayBy.TheVariants as replay_by
use Rattle.blk_args.specs.Options.{replay_by_option}
use Rattle.blk_args.specs.Asked.{replay_by_named}
use Rattle.blk_args.proofs.Lines.{read_by, unread_by}
use Rattle.blk_args.proofs.replaying.replay_by_given.Goals as goal

pub returns-in-Some : goal.returns-in-Some
returns-in-Some c = read_by (found_of c.args.options.now) replay_by_option.name c.in-Some.text.now replay_by_named (Some replay_by.Late) c.replay_by_named.result c.in-Some.ensures c.replay_by_named.ensures

pub returns-in-None : goal.returns-in-None
returns-in-None c = unread_by (found_of c.args.options.now) replay_by_option.name replay_by_named (Some replay_by.Late) c.in-None.ensures
