use Rattle.edd_blame.proofs.Stalling.{AreCountedTo}
use Rattle.edd_blame.proofs.sum.stall_counts.Given as goal

abbrev pub invariant-loop-place : goal.invariant-loop-place
invariant-loop-place g l = AreCountedTo l.dispatches l.allowances l.place l.counts.items
