use Rattle.std.proofs.Common.{◌≤◌, length}
use Rattle.edd_oracle.proofs.Windows.{AreWindowsFrom}
use Rattle.edd_oracle.proofs.cover.windows.Given as goal

abbrev pub invariant-loop-left : goal.invariant-loop-left
invariant-loop-left g l = record {
  windows : AreWindowsFrom l.served l.capacity l.passed l.left l.cover.items l.from;
  within : l.left ≤ length l.passed;
}

abbrev pub decreases-loop-left : goal.decreases-loop-left
decreases-loop-left g l = l.left
