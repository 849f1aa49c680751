use Rattle.std.proofs.Common.{◌≡◌, length}
use Rattle.blk_layer.proofs.Taken.{TakesMore}
use Rattle.blk_layer.proofs.seats.Worker.take_some.Given as goal

abbrev pub invariant-loop : goal.invariant-loop
invariant-loop g l = TakesMore l.initial.batch l.initial.self l.batch l.self × (length l.batch ≡ l.counter)
