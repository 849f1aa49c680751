use Rattle.std.proofs.Common.{◌≡◌, map, take}
use Rattle.blk_report.specs.Inside.Below.{half_of}
use Rattle.blk_report.proofs.below.halves_of.Given as goal

abbrev pub invariant-loop-ask : goal.invariant-loop-ask
invariant-loop-ask g l = l.halves.items ≡ map (half_of l.numbers l.pivot) (take l.ask-index l.asks)
