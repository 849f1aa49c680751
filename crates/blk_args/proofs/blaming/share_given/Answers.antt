use Rattle.std.proofs.Common.{None}
use Rattle.std.specs.Prelude.{Ok}
use Rattle.clap.specs.Words.{found_of}
use Rattle.blk_args.specs.Options.{tightest_option}
use Rattle.blk_args.specs.Asked.{share_by}
use Rattle.blk_args.proofs.Lines.{read_by, unread_by}
use Rattle.blk_args.proofs.blaming.share_given.Goals as goal

pub returns-in-Some : goal.returns-in-Some
returns-in-Some c = read_by (found_of c.args.options.now) tightest_option.name c.in-Some.text.now share_by (Ok None) c.share_by.result c.in-Some.ensures c.share_by.ensures

pub returns-in-None : goal.returns-in-None
returns-in-None c = unread_by (found_of c.args.options.now) tightest_option.name share_by (Ok None) c.in-None.ensures
