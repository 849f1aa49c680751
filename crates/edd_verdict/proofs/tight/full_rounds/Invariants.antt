use Rattle.edd_verdict.proofs.Filling.{AreFoundUpto}
use Rattle.edd_verdict.proofs.tight.full_rounds.Given as goal

abbrev pub invariant-loop-place : goal.invariant-loop-place
invariant-loop-place g l = AreFoundUpto l.served l.capacity l.place l.full.items
