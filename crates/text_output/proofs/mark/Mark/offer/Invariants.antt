use Rattle.std.proofs.Common.{◌≡◌, []}
use Rattle.std.specs.Io.KnownBytes.{Appends}
use Rattle.text_output.proofs.mark.Mark.offer.Given as goal

abbrev pub invariant-loop : goal.invariant-loop
invariant-loop g l = record {
  still : Appends (g.W.Write.contents l.initial.writer) (g.W.Write.contents l.writer) [];
  same : l.self ≡ l.initial.self;
}
