use Rattle.std.proofs.Common.{◌≡◌, count_by, take}
use Rattle.blk_capture.specs.Inside.Figures.{is_late_flight}
use Rattle.blk_capture.proofs.figures.count_late.Given as goal

abbrev pub invariant-loop-flight : goal.invariant-loop-flight
invariant-loop-flight l = l.count ≡ count_by (is_late_flight l.dir) (take l.flight-index l.flights)
