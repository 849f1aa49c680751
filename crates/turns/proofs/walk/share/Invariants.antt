use Rattle.std.proofs.Common.{◌≡◌, ◌-◌, ◌+◌, ◌*◌, length}
use Rattle.turns.specs.Inside.{AreAnswers}
use Rattle.turns.proofs.walk.share.Given as goal

abbrev pub invariant-loop-place : goal.invariant-loop-place
invariant-loop-place g l = record {
  at : l.place ≡ l.from + length l.all.items * l.step;
  are : AreAnswers g.F.Fn l.run l.from l.step l.all.items;
}

abbrev pub decreases-loop-place : goal.decreases-loop-place
decreases-loop-place g l = l.until - l.place
