use Rattle.std.proofs.Common.{◌≡◌, ◌<◌, ◌≤◌, ◌-◌, ◌*◌, ◌⊎◌}
use Rattle.edd_commands.specs.Capacity.{carried}
use Rattle.edd_commands.specs.Inside.InForce.{IsInForce}
use Rattle.edd_commands.proofs.steps.sum_of.Given as goal

abbrev pub invariant-loop-start : goal.invariant-loop-start
invariant-loop-start l = record {
  after : l.from ≤ l.start;
  before : (l.start ≤ l.from) ⊎ (l.start ≤ l.until);
  total : l.total ≡ carried l.steps l.from (l.start - l.from);
  small : l.total ≤ 256 * (l.start - l.from);
  in_force : l.start < l.until → IsInForce l.steps l.place l.start;
}

abbrev pub decreases-loop-start : goal.decreases-loop-start
decreases-loop-start l = l.until - l.start
