use Rattle.std.proofs.Common.{◌≡◌, ◌+◌, ◌≤◌, ℕ, take, length}
use Rattle.blk_core.specs.Tries.{issued_now}
use Rattle.blk_core.proofs.trying.issued_now.Given as goal

abbrev pub invariant-loop-place : goal.invariant-loop-place
invariant-loop-place g l = (l.count ≤ l.place)
    × ((m : ℕ) → m + l.place ≡ length l.events → issued_now l.events ≡ l.count + issued_now (take m l.events))
