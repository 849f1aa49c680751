use Rattle.std.proofs.Common.{subst, sym}
use Rattle.blk_lifo.specs.Inside.Stacks.{HaveDistinctIds}
use Rattle.blk_lifo.proofs.lifo.Lifo.new.Goals as goal

pub invariant_of-result : goal.invariant_of-result
unfolding HaveDistinctIds
invariant_of-result g c = subst HaveDistinctIds (sym c.new.ensures.items) tt
