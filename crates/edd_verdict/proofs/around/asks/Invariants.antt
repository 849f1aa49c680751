use Rattle.edd_verdict.proofs.Opening.{AreAsks}
use Rattle.edd_verdict.proofs.around.asks.Given as goal

abbrev pub invariant-loop-place : goal.invariant-loop-place
invariant-loop-place g l = AreAsks l.commands l.rounds l.place l.asks.items
