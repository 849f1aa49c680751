use Rattle.std.proofs.Common.{List, ◌≡◌, map}
use Rattle.blk_capture.specs.Requests.{AreTimed}
use Rattle.blk_capture.specs.Inside.Figures.{flight_of}
use Rattle.blk_capture.specs.declared.requests.CapturedRequest.{CapturedRequest}
use Rattle.blk_capture.proofs.Figured.{IsMostUpto, AreCounted}
use Rattle.blk_capture.proofs.figures.most_at_once.Given as goal

abbrev pub invariant-loop-flight : goal.invariant-loop-flight
invariant-loop-flight l = (qs : List CapturedRequest) → l.flights ≡ map flight_of qs → AreTimed qs → AreCounted l.completions qs → IsMostUpto qs l.flight-index l.most
