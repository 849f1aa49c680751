use Rattle.blk_args.proofs.Listed.{all_up_to}
use Rattle.blk_args.proofs.lists.numbers_of.Goals as goal

pub returns-clause-range : goal.returns-clause-range
returns-clause-range c = all_up_to (λ n. n.items) c.listed.result c.args.most c.args.text.now c.listed.ensures
