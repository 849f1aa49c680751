use Rattle.std.proofs.Common.{◌≡◌, count_by, take}
use Rattle.blk_capture.specs.Summaries.{is_dispatched}
use Rattle.blk_capture.proofs.summary.count_gone.Given as goal

abbrev pub invariant-loop-bio : goal.invariant-loop-bio
invariant-loop-bio l = l.count ≡ count_by is_dispatched (take l.bio-index l.bios)
