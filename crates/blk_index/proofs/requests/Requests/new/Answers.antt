use Rattle.blk_index.proofs.ByDir.{none_yet}
use Rattle.blk_index.proofs.requests.Requests.new.Goals as goal

pub invariant_of-result : goal.invariant_of-result
invariant_of-result g c = none_yet c.in_ok-new.field-0 c.in_ok-new-2.field-0 c.in_ok-new.ensures.none c.in_ok-new-2.ensures.none c.in_ok-new.ensures.run c.in_ok-new-2.ensures.run
