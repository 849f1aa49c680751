use Rattle.std.proofs.Common.{◌∙◌, map, ap}
use Rattle.std.proofs.lemmas.List.Sorted.{IsNonDecreasingBy-from_sort}
use Rattle.blk_blame.specs.LateGroups.{late_group_by}
use Rattle.blk_blame.proofs.late_groups.late_groups_of.Goals as goal

pub late_groups_by-requires-clause-rising : goal.late_groups_by-requires-clause-rising
late_groups_by-requires-clause-rising c = rw c.as_slice.ensures.value (IsNonDecreasingBy-from_sort (λ x. x) _ c.sort_unstable.ensures.sorted)

pub returns : goal.returns
returns c = record {
  keys = c.once_each.new.numbers.items;
  rise = c.once_each.ensures.rises;
  all = λ p h. c.once_each.ensures.keeps p (rw c.in_ok-keys.ensures h);
  only = λ p h. rw c.in_ok-keys.ensures at (c.once_each.ensures.adds_none p h);
  are = c.in_ok-late_groups.ensures ∙ ap (map (late_group_by c.args.by c.args.requests.now)) c.as_slice-2.ensures.value;
}
