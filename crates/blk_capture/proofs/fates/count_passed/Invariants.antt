use Rattle.std.proofs.Common.{◌≡◌, count_by, take}
use Rattle.blk_capture.specs.Fates.{is_of_kind}
use Rattle.blk_capture.proofs.fates.count_passed.Given as goal

abbrev pub invariant-loop-fate : goal.invariant-loop-fate
invariant-loop-fate l = l.count ≡ count_by (is_of_kind l.kind) (take l.fate-index l.fates)
