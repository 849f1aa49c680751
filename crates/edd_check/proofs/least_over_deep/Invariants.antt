use Rattle.std.proofs.Common.{◌≡◌, ◌≢◌, ◌<◌, ◌+◌, ℕ, get_or}
use Rattle.edd_commands.specs.Capacity.{depth_at}
use Rattle.edd_check.proofs.least_over_deep.Given as goal

abbrev pub invariant-loop-last : goal.invariant-loop-last
invariant-loop-last g l =
    (j e : ℕ) → e < l.last → e ≡ j + depth_at l.capacity (get_or l.sorted.items e 0) → get_or l.sorted.items j 0 ≢ get_or l.sorted.items e 0
