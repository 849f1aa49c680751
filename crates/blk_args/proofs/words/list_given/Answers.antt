use Rattle.std.proofs.Common.{option_map}
use Rattle.clap.specs.Words.{found_of}
use Rattle.blk_args.specs.Lists.{list_of}
use Rattle.blk_args.proofs.Lines.{given_by, not_given_by}
use Rattle.blk_args.proofs.words.list_given.Goals as goal

pub returns-in-Some-clause-numbers : goal.returns-in-Some-clause-numbers
returns-in-Some-clause-numbers c =
    given_by (found_of c.args.options.now) c.args.id.now c.in-Some.text.now (list_of c.args.most) (option_map (λ n. n.items) c.numbers_of.result) c.in-Some.ensures c.numbers_of.ensures.numbers

pub returns-in-None-clause-numbers : goal.returns-in-None-clause-numbers
returns-in-None-clause-numbers c = not_given_by (found_of c.args.options.now) c.args.id.now (list_of c.args.most) c.in-None.ensures
