use Rattle.edd_oracle.proofs.Late.{AreLate}
use Rattle.edd_oracle.proofs.cover.passed_over.Given as goal

abbrev pub invariant-loop-place : goal.invariant-loop-place
invariant-loop-place g l = AreLate l.commands l.rounds l.place l.found.items
