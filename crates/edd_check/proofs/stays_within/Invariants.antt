use Rattle.std.proofs.Common.{◌<◌, ◌≤◌, ◌-◌, ◌^◌, ℕ}
use Rattle.edd_commands.specs.Capacity.{depth_at}
use Rattle.edd_commands.specs.Schedule.{places_at}
use Rattle.edd_check.proofs.stays_within.Given as goal

abbrev pub invariant-loop-least : goal.invariant-loop-least
invariant-loop-least g l = (x : ℕ) → x < l.from → places_at l.rounds x ≤ depth_at l.capacity x

abbrev pub decreases-loop-least : goal.decreases-loop-least
decreases-loop-least g l = 2 ^ 64 - l.from
