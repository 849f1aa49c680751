use Rattle.edd_verdict.proofs.Opening.{ArePending}
use Rattle.edd_verdict.proofs.around.verdicts_around.Given as goal

abbrev pub invariant-loop-next : goal.invariant-loop-next
invariant-loop-next g l = ArePending l.commands l.rounds l.windows l.asks l.next l.left l.opened.items l.verdicts.items

abbrev pub decreases-loop-next : goal.decreases-loop-next
decreases-loop-next g l = l.next
