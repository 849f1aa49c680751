use Rattle.std.proofs.Common.{rules}
use Rattle.std.proofs.lemmas.List.Sorted.{answers_always}
use Rattle.blk_blame.specs.Greatest.{late_group_size}
use Rattle.blk_blame.proofs.top.sort_late_groups.Goals as goal

pub returns : goal.returns
returns c = record {
  same = c.sort_by_key.ensures.permutation;
  sorted = c.in_ok-sort_by_key.ensures.sorted (λ x. record { 0 = late_group_size x }) (answers_always _ _ _ (λ f a r g h. search rules));
  stable = c.sort_by_key.ensures.stable (λ x. record { 0 = late_group_size x }) (answers_always _ _ _ (λ f a r g h. search rules));
}
