use Rattle.std.proofs.Common.{List, ap, arith}
use Rattle.std.specs.Prelude.{slice_index_or}
use Rattle.std.specs.FinMap as map
use Rattle.blk_sched.specs.Meaning.{Pending}
use Rattle.blk_index.proofs.Splits.{all_empty}
use Rattle.blk_index.proofs.queues.empty_queues.Goals as goal

pub loop-preserved : goal.loop-preserved
loop-preserved g c = record {
  count = omega (arith, c.in_ok-push.ensures.len);
  empty = λ q. rw c.in_ok-push.ensures.items (all_empty c.loop.queues.items c.in_ok-new.field-0 c.loop.invariant.empty c.in_ok-new.ensures q);
}

pub loop-init : goal.loop-init
loop-init g c = record {
  count = c.in_ok-queues.ensures.len;
  empty = λ q. ap (λ (l : List Pending). slice_index_or l q map.empty) c.in_ok-queues.ensures.items;
}
