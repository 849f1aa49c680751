use Rattle.clap.specs.Words.{found_of}
use Rattle.blk_args.specs.Options.{by_option}
use Rattle.blk_args.specs.Asked.{by_named}
use Rattle.blk_args.proofs.Lines.{given_by, not_given_by}
use Rattle.blk_args.proofs.words.by_given.Goals as goal

pub returns-in-Some : goal.returns-in-Some
returns-in-Some c = given_by (found_of c.args.options.now) by_option.name c.in-Some.text.now by_named c.by_named.result c.in-Some.ensures c.by_named.ensures

pub returns-in-None : goal.returns-in-None
returns-in-None c = not_given_by (found_of c.args.options.now) by_option.name by_named c.in-None.ensures
