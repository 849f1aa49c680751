use Rattle.edd_oracle.specs.Inside.Cover.{AreDue}
use Rattle.edd_oracle.proofs.cover.all_due.Given as goal

abbrev pub invariant-loop-place : goal.invariant-loop-place
invariant-loop-place l = AreDue l.served l.first l.place l.round l.due
