use Rattle.blk_index.proofs.Queued.{none_pending}
use Rattle.blk_index.proofs.Splits.{empty_split}
use Rattle.blk_index.proofs.queues.Queues.new.Goals as goal

pub invariant_of-result : goal.invariant_of-result
invariant_of-result g c = empty_split c.in_ok-empty_queues.field-0.items c.in_ok-empty_queues.ensures.count c.in_ok-empty_queues.ensures.empty

pub returns : goal.returns
returns g c = none_pending c.in_ok-empty_queues.field-0.items c.in_ok-empty_queues.ensures.empty
