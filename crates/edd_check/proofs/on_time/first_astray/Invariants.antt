use Rattle.std.proofs.Common.{◌<◌, ℕ}
use Rattle.edd_check.specs.OnTime.{IsWindowAt}
use Rattle.edd_check.proofs.on_time.first_astray.Given as goal

abbrev pub invariant-loop-place : goal.invariant-loop-place
invariant-loop-place l = (k : ℕ) → k < l.place → IsWindowAt l.cover k
