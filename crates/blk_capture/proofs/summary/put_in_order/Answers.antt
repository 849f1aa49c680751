use Rattle.std.proofs.Common.{List, ℕ, IsPermutation, subst}
use Rattle.std.proofs.lemmas.List.Sorted.{IsNonDecreasingBy-from_sort}
use Rattle.blk_capture.proofs.Flying.{sorted_times}
use Rattle.blk_capture.proofs.summary.put_in_order.Goals as goal

pub returns-clause-rising : goal.returns-clause-rising
returns-clause-rising c = IsNonDecreasingBy-from_sort (λ x. x) c.sort_unstable.new.self c.sort_unstable.ensures.sorted

pub returns-clause-counted : goal.returns-clause-counted
returns-clause-counted c t =
    sorted_times c.args.requests.now c.sort_unstable.new.self (subst (λ (xs : List ℕ). IsPermutation xs c.sort_unstable.new.self) c.requires c.sort_unstable.ensures.permutation) t
