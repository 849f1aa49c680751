use Rattle.edd_oracle.proofs.Back.{IsServedBack}
use Rattle.edd_oracle.proofs.cover.begin.Given as goal

abbrev pub invariant-loop-from : goal.invariant-loop-from
invariant-loop-from g l = IsServedBack l.served l.capacity l.due l.from l.left

abbrev pub decreases-loop-from : goal.decreases-loop-from
decreases-loop-from g l = l.from
