use Rattle.std.proofs.Common.{◌≤◌, length}
use Rattle.blk_layer.specs.Inside.Closing.{AreAbreast}
use Rattle.blk_layer.proofs.closing.first_extra.Given as goal

abbrev pub invariant-loop-item : goal.invariant-loop-item
invariant-loop-item g l = (l.place ≤ length l.list) × AreAbreast g.T.PartialEq.eq l.list l.other l.place l.item-index
