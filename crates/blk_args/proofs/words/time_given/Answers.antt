use Rattle.clap.specs.Words.{found_of}
use Rattle.blk_args.specs.Times.{time_of}
use Rattle.blk_args.proofs.Lines.{given_by, not_given_by}
use Rattle.blk_args.proofs.words.time_given.Goals as goal

pub returns-in-Some : goal.returns-in-Some
returns-in-Some c = given_by (found_of c.args.options.now) c.args.id.now c.in-Some.text.now time_of c.time_of.result c.in-Some.ensures c.time_of.ensures

pub returns-in-None : goal.returns-in-None
returns-in-None c = not_given_by (found_of c.args.options.now) c.args.id.now time_of c.in-None.ensures
