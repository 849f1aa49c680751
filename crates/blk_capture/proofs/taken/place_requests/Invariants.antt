use Rattle.blk_capture.specs.Inside.Matchings.{all_known}
use Rattle.blk_capture.proofs.Placed.{IsPlacedUpto}
use Rattle.blk_capture.proofs.taken.place_requests.Given as goal

abbrev pub invariant-loop-number : goal.invariant-loop-number
invariant-loop-number g l = IsPlacedUpto l.begin l.options (all_known l.matching) l.lives l.dispatches l.taken l.number
