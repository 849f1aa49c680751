use Rattle.std.proofs.Common.{rules}
use Rattle.std.proofs.lemmas.List.Sorted.{answers_always}
use Rattle.blk_replay.proofs.requests.put_by_release.Goals as goal

pub returns : goal.returns
returns g c = record {
  same = c.sort_by_key.ensures.permutation;
  sorted = c.in_ok-sort_by_key.ensures.sorted (λ e. e.released) (answers_always _ _ _ (λ f a r g h. search rules));
  stable = c.sort_by_key.ensures.stable (λ e. e.released) (answers_always _ _ _ (λ f a r g h. search rules));
}
