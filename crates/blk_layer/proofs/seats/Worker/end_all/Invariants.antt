use Rattle.blk_layer.proofs.Taken.{DoesFirst}
use Rattle.blk_layer.proofs.seats.Worker.end_all.Given as goal

abbrev pub invariant-loop : goal.invariant-loop
invariant-loop g l = DoesFirst l.counter l.initial.batch l.initial.self l.batch l.self
