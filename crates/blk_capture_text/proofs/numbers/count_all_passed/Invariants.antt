use Rattle.std.proofs.Common.{◌≡◌, count_by, take}
use Rattle.blk_capture.specs.Fates.{is_passed}
use Rattle.blk_capture_text.proofs.numbers.count_all_passed.Given as goal

abbrev pub invariant-loop-fate : goal.invariant-loop-fate
invariant-loop-fate l = l.count ≡ count_by is_passed (take l.fate-index l.fates)
