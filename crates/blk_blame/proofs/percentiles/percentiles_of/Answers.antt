use Rattle.blk_blame.proofs.percentiles.percentiles_of.Goals as goal

pub returns : goal.returns
returns c = record {
  sorted = c.sort_unstable.new.self;
  same = c.sort_unstable.ensures.permutation;
  rising = c.sort_unstable.ensures.sorted;
  are = c.of_sorted.ensures;
}
