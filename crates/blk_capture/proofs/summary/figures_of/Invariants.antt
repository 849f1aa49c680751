use Rattle.std.proofs.Common.{take}
use Rattle.blk_capture.specs.Inside.Figures.{AreFiguresOf}
use Rattle.blk_capture.proofs.summary.figures_of.Given as goal

abbrev pub invariant-loop-request : goal.invariant-loop-request
invariant-loop-request g l = AreFiguresOf (take l.request-index l.requests) l.figures
