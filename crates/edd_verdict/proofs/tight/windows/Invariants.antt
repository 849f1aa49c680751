use Rattle.edd_verdict.specs.Inside.Tight.{AreBarred, AreTightBelow}
use Rattle.edd_verdict.proofs.Sweeping.{IsReached}
use Rattle.edd_verdict.proofs.tight.windows.Given as goal

abbrev pub invariant-loop-last : goal.invariant-loop-last
invariant-loop-last g l = record {
  reached : IsReached l.full l.last-index l.next;
  barred : AreBarred l.full l.next l.peaks.items;
  tight : AreTightBelow l.full l.next l.found.items;
}
