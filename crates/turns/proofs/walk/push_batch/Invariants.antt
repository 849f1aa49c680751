use Rattle.std.proofs.Common.{◌+◌}
use Rattle.turns.specs.Turns.{HaveRun}
use Rattle.turns.proofs.walk.push_batch.Given as goal

abbrev pub invariant-loop-i : goal.invariant-loop-i
invariant-loop-i g l = record { rows : HaveRun g.F.Fn l.run (l.from + l.i) l.rows.items }
