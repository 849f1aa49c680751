use Rattle.std.proofs.Common.{take}
use Rattle.std.specs.Prelude.{All}
use Rattle.blk_schedulers.specs.Made.{IsMade}
use Rattle.blk_runs.proofs.tracing.unmade.Given as goal

abbrev pub invariant-loop-i : goal.invariant-loop-i
invariant-loop-i l = record { made : All IsMade (take l.i l.scheds) }
