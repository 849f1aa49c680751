use Rattle.std.proofs.Common.{None}
use Rattle.std.specs.Prelude.{Ok}
use Rattle.clap.specs.Words.{found_of}
use Rattle.blk_args.specs.Options.{round_option}
use Rattle.blk_args.specs.Asked.{round_by}
use Rattle.blk_args.proofs.Lines.{read_by, unread_by}
use Rattle.blk_args.proofs.words.round_given.Goals as goal

pub returns-in-Some : goal.returns-in-Some
returns-in-Some c = read_by (found_of c.args.options.now) round_option.name c.in-Some.text.now round_by (Ok None) c.round_by.result c.in-Some.ensures c.round_by.ensures

pub returns-in-None : goal.returns-in-None
returns-in-None c = unread_by (found_of c.args.options.now) round_option.name round_by (Ok None) c.in-None.ensures
