use Rattle.edd_oracle.proofs.Running.{AreServed}
use Rattle.edd_oracle.proofs.cover.served_before.Given as goal

abbrev pub invariant-loop-place : goal.invariant-loop-place
invariant-loop-place g l = AreServed l.commands l.rounds l.until l.place l.found.items
