use Rattle.std.proofs.Common.{◌≡◌, ◌≤◌, ◌<◌, ◌+◌, ℕ, get_or}
use Rattle.edd_commands.specs.declared.TheConstants.{MAX_ROUNDS}
use Rattle.blk_replay.specs.declared.Arrived.{Arrived}
use Rattle.blk_replay.proofs.can_replay.Given as goal

abbrev pub invariant-loop-place : goal.invariant-loop-place
invariant-loop-place l = record {
  first : l.place ≡ 0 → l.last ≡ 1;
  last : (d : Arrived) (k : ℕ) → k + 1 ≡ l.place → l.last ≡ (get_or l.requests k d).release;
  in_range : (k : ℕ) (d : Arrived) → k < l.place → (get_or l.requests k d).due < MAX_ROUNDS;
  some_round : (k : ℕ) (d : Arrived) → k < l.place → 0 < (get_or l.requests k d).release;
  in_order : (k : ℕ) (d : Arrived) → k + 1 < l.place → (get_or l.requests k d).release ≤ (get_or l.requests (k + 1) d).release;
  in_time : (k : ℕ) (d : Arrived) → k < l.place → (get_or l.requests k d).release ≤ k + 1;
}
