use Rattle.blk_lifo.specs.Inside.Stacks.{IsNewestOf}
use Rattle.blk_lifo.proofs.lifo.newest_fit.Given as goal

abbrev pub invariant-loop-place : goal.invariant-loop-place
invariant-loop-place l = IsNewestOf l.limits l.newcomer l.requests l.place l.newest
