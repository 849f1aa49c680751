use Rattle.std.proofs.Common.{ℕ, ◌<◌, ◌+◌, length}
use Rattle.std.specs.Prelude.{slice_index}
use Rattle.edd_oracle.proofs.input.is_rising.Given as goal

-- each number before is below the next one
abbrev pub invariant-loop-i : goal.invariant-loop-i
invariant-loop-i l = (k : ℕ) → k + 1 < l.i → k + 1 < length l.ids → slice_index l.ids k < slice_index l.ids (k + 1)
