use Rattle.blk_capture.proofs.Rounds.{IsServedTo}
use Rattle.blk_capture.proofs.counting.are_served.Given as goal

abbrev pub invariant-loop-request : goal.invariant-loop-request
invariant-loop-request l = IsServedTo l.requests l.request-index l.last
