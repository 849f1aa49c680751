use Rattle.std.proofs.Common.{◌≤◌, ◌-◌}
use Rattle.turns.specs.Turns.{HaveRun}
use Rattle.turns.proofs.walk.batches.Given as goal

abbrev pub invariant-loop-from : goal.invariant-loop-from
invariant-loop-from g l = record { within : l.from ≤ l.runs; rows : HaveRun g.F.Fn l.run l.from l.rows.items }

abbrev pub decreases-loop-from : goal.decreases-loop-from
decreases-loop-from g l = l.runs - l.from
