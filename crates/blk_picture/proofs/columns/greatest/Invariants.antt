use Rattle.std.proofs.Common.{◌≡◌, take}
use Rattle.blk_trace.specs.Meaning.{greatest}
use Rattle.blk_picture.proofs.columns.greatest.Given as goal

abbrev pub invariant-loop-number : goal.invariant-loop-number
invariant-loop-number l = l.most ≡ greatest (take l.number-index l.numbers)
