use Rattle.blk_capture.proofs.Rounds.{IsCountedTo}
use Rattle.blk_capture.proofs.counting.count_rounds.Given as goal

abbrev pub invariant-loop-place : goal.invariant-loop-place
invariant-loop-place g l = IsCountedTo l.requests l.commands.items l.rounds.items l.place
