use Rattle.std.proofs.Common.{◌<◌, ◌≤◌, ◌-◌, get_or, length}
use Rattle.edd_commands.specs.declared.steps.Step.{Step}
use Rattle.edd_commands.proofs.steps.place_at.Given as goal

abbrev pub invariant-loop-high : goal.invariant-loop-high
invariant-loop-high l = record {
  below : l.low < l.high;
  within : l.high ≤ length l.steps;
  begun : (d : Step) → (get_or l.steps l.low d).from ≤ l.round;
  later : (d : Step) → l.high < length l.steps → l.round < (get_or l.steps l.high d).from;
}

abbrev pub decreases-loop-high : goal.decreases-loop-high
decreases-loop-high l = l.high - l.low
