use Rattle.std.proofs.Common.{sym, subst}
use Rattle.blk_report.specs.Spread.{HaveShares}
use Rattle.blk_report.proofs.Ranks.{shares}
use Rattle.blk_report.proofs.spreading.quantiles_of.Goals as goal

pub returns : goal.returns
returns c = record {
  sorted = c.sort_unstable.new.self;
  same = c.sort_unstable.ensures.permutation;
  rising = c.sort_unstable.ensures.sorted;
  are = c.of_sorted.ensures;
  shares = subst (HaveShares c.args.values.now) (sym c.of_sorted.ensures) (shares c.args.values.now c.sort_unstable.new.self c.sort_unstable.ensures.permutation c.sort_unstable.ensures.sorted);
}
