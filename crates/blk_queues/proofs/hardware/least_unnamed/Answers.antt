use Rattle.std.proofs.Common.{rules, ◌≡◌, true}
use borrow.Author.Count.{below_more}
use Rattle.blk_queues.proofs.hardware.least_unnamed.Goals as goal

pub loop-hw-preserved : goal.loop-hw-preserved
loop-hw-preserved c =
    let named : c.names.result ≡ true = first_of (cc, search rules) in
    below_more _ _ c.loop-hw.invariant (c.names.ensures.0 named)
