use Rattle.std.proofs.Common.{None}
use Rattle.std.specs.Prelude.{Ok}
use Rattle.clap.specs.Words.{found_of}
use Rattle.blk_args.specs.Options.{as_option}
use Rattle.blk_args.specs.Asked.{as_by}
use Rattle.blk_args.proofs.Lines.{read_by, unread_by}
use Rattle.blk_args.proofs.source.as_given.Goals as goal

pub returns-in-Some : goal.returns-in-Some
returns-in-Some c = read_by (found_of c.args.options.now) as_option.name c.in-Some.text.now as_by (Ok None) c.as_by.result c.in-Some.ensures c.as_by.ensures

pub returns-in-None : goal.returns-in-None
returns-in-None c = unread_by (found_of c.args.options.now) as_option.name as_by (Ok None) c.in-None.ensures
