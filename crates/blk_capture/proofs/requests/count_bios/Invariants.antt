use Rattle.blk_capture.proofs.Tallying.{IsTalliedTo}
use Rattle.blk_capture.proofs.requests.count_bios.Given as goal

abbrev pub invariant-loop-bio : goal.invariant-loop-bio
invariant-loop-bio g l = IsTalliedTo l.fn.requests.items l.requests.items l.bios l.bio-index
