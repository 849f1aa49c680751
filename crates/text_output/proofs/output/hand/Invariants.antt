use Rattle.std.proofs.Common.{◌≡◌, ◌+◌, ℕ, List, ◌++◌, length}
use Rattle.std.specs.Prelude.{◌≤◌}
use Rattle.std.specs.Io.KnownBytes.{Appends}
use Rattle.text_output.proofs.output.hand.Given as goal

abbrev pub invariant-loop-turn : goal.invariant-loop-turn
invariant-loop-turn g l = record {
  taken : (done : List ℕ) × (l.fn.text ≡ done ++ l.rest) × Appends (g.W.Write.contents l.initial.writer) (g.W.Write.contents l.writer) done;
  left : length l.rest + l.turn ≤ length l.fn.text;
  same : l.mark ≡ l.initial.mark;
}
