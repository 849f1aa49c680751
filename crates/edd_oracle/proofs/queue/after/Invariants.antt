use Rattle.edd_oracle.proofs.Until.{IsAfterFirst}
use Rattle.edd_oracle.proofs.queue.after.Given as goal

abbrev pub invariant-loop-round : goal.invariant-loop-round
invariant-loop-round l = IsAfterFirst l.rounds l.round-index l.end
