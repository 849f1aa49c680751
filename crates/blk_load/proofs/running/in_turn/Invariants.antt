use Rattle.std.proofs.Common.{◌<◌}
use Rattle.std.specs.Prelude.{All}
use Rattle.blk_load.specs.Inside.Loads.{AreInTurn}
use Rattle.blk_load.proofs.running.in_turn.Given as goal

abbrev pub invariant-loop-place : goal.invariant-loop-place
invariant-loop-place l = AreInTurn l.place l.below l.all.items × All (λ n. n < l.below) l.all.items
