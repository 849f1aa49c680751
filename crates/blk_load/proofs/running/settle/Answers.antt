use Rattle.std.proofs.Common.{◌≡◌, arith, length}
use Rattle.blk_load.proofs.Counted.{served_once}
use Rattle.blk_load.proofs.running.settle.Goals as goal

pub returns-in-Some-settle-clause-once : goal.returns-in-Some-settle-clause-once
returns-in-Some-settle-clause-once g c =
    let closed = c.in-Ok.field-0 in
    let none : length closed.left.items ≡ 0 = grind arith in
    served_once closed.trace.events closed.left.items none c.in-Ok.ensures.once
