use Rattle.std.proofs.Common.{◌≡◌, ◌++◌, map, take, drop}
use Rattle.blk_capture.specs.Parting.{fate_in}
use Rattle.blk_capture.proofs.part.fates_in.Given as goal

abbrev pub invariant-loop-fate : goal.invariant-loop-fate
invariant-loop-fate l = l.fates ≡ map (fate_in l.from l.count) (take l.fate-index l.initial.fates) ++ drop l.fate-index l.initial.fates
