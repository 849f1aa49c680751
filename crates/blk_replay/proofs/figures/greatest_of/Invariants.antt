use Rattle.std.proofs.Common.{◌≡◌, take}
use Rattle.blk_replay.specs.Figures.{greatest_of}
use Rattle.blk_replay.proofs.figures.greatest_of.Given as goal

abbrev pub invariant-loop-outcome : goal.invariant-loop-outcome
invariant-loop-outcome l = l.greatest ≡ greatest_of (take l.outcome-index l.outcomes)
