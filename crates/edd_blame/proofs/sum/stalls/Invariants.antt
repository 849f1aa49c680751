use Rattle.edd_blame.proofs.Stalling.{AreStallsTo}
use Rattle.edd_blame.proofs.sum.stalls.Given as goal

abbrev pub invariant-loop-after : goal.invariant-loop-after
invariant-loop-after g l = AreStallsTo l.dispatches l.allowances l.counts l.after l.stalls.items
