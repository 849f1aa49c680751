use Rattle.std.proofs.Common.{rules}
use Rattle.std.proofs.lemmas.List.Sorted.{IsNonDecreasingBy-from_sort_by_key}
use Rattle.edd_verdict.proofs.tight.by_round.Goals as goal

pub returns-clause-rising : goal.returns-clause-rising
returns-clause-rising g c =
    IsNonDecreasingBy-from_sort_by_key (λ s. s.round) _ c.sort_unstable_by_key.ensures.sorted (λ s r q k. search rules)
