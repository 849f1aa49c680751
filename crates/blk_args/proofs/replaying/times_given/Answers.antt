use Rattle.std.proofs.Common.{option_map}
use Rattle.clap.specs.Words.{found_of}
use Rattle.blk_args.specs.Lists.{times_listed}
use Rattle.blk_args.proofs.Lines.{given_by, not_given_by}
use Rattle.blk_args.proofs.replaying.times_given.Goals as goal

pub returns-in-Some : goal.returns-in-Some
returns-in-Some c = given_by (found_of c.args.options.now) c.args.id.now c.in-Some.text.now times_listed (option_map (λ n. n.items) c.times_of.result) c.in-Some.ensures c.times_of.ensures

pub returns-in-None : goal.returns-in-None
returns-in-None c = not_given_by (found_of c.args.options.now) c.args.id.now times_listed c.in-None.ensures
