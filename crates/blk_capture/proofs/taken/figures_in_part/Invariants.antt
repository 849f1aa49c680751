use Rattle.std.proofs.Common.{◌≡◌, map}
use Rattle.blk_capture.specs.Inside.Figures.{AreFiguresOf}
use Rattle.blk_capture.specs.Inside.Partly.{plain}
use Rattle.blk_capture.specs.Requests.{AreTimed}
use Rattle.blk_capture.specs.Rules.{Known}
use Rattle.blk_capture.specs.Settled.{all_taken}
use Rattle.blk_capture.proofs.Partly.{part_upto}
use Rattle.blk_capture.proofs.taken.figures_in_part.Given as goal

abbrev pub invariant-loop-number : goal.invariant-loop-number
invariant-loop-number g l = (m : Known) → m.requests ≡ l.requests → m.dispatches ≡ l.dispatches → AreTimed (all_taken l.options m) → AreFiguresOf (map plain (part_upto l.begin l.first l.options m l.number)) l.figures
