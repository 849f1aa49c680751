use Rattle.std.proofs.Common.{◌≡◌, count_by, take}
use Rattle.blk_capture.specs.Fates.{is_unmatched}
use Rattle.blk_capture_text.proofs.numbers.count_unmatched.Given as goal

abbrev pub invariant-loop-fate : goal.invariant-loop-fate
invariant-loop-fate l = l.count ≡ count_by is_unmatched (take l.fate-index l.fates)
