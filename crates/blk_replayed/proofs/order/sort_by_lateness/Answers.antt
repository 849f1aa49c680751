use Rattle.std.proofs.Common.{rules}
use Rattle.std.proofs.lemmas.List.Sorted.{answers_always}
use Rattle.blk_replayed.specs.Inside.Order.{greatest_key}
use Rattle.blk_replayed.proofs.order.sort_by_lateness.Goals as goal

pub returns : goal.returns
returns c = record {
  same = c.sort_by_key.ensures.permutation;
  sorted = c.in_ok-sort_by_key.ensures.sorted greatest_key (answers_always _ _ _ (λ f a r g h. search rules));
  stable = c.sort_by_key.ensures.stable greatest_key (answers_always _ _ _ (λ f a r g h. search rules));
}
