use Rattle.std.proofs.Common.{◌≡◌, ℕ, get_or, vec_len}
use Rattle.std.specs.FinMap as map
use Rattle.blk_index.proofs.queues.empty_queues.Given as goal

-- as many lists as turns, each empty
abbrev pub invariant-loop : goal.invariant-loop
invariant-loop g l = record {
  count : vec_len l.queues ≡ l.counter;
  empty : (q : ℕ) → get_or l.queues.items q map.empty ≡ map.empty;
}
