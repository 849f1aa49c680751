use Rattle.std.proofs.Common.{ℕ, ◌≤◌, ◌<◌, get_or}
use Rattle.edd_check.specs.declared.Window.{Window}
use Rattle.edd_verdict.specs.Inside.Open.{AreOpen}
use Rattle.edd_verdict.proofs.around.open_windows.Given as goal

abbrev pub invariant-loop-now : goal.invariant-loop-now
invariant-loop-now g l = record {
  are : AreOpen l.windows l.now l.opened.items;
  within : l.now ≤ l.left;
  later : (i : ℕ) (e : Window) → l.now ≤ i → i < l.left → l.due ≤ (get_or l.windows i e).due;
}

abbrev pub decreases-loop-now : goal.decreases-loop-now
decreases-loop-now g l = l.now
