use Rattle.std.proofs.Common.{◌≡◌, ◌<◌, ℕ, get_or}
use Rattle.edd_commands.specs.declared.steps.Step.{Step}
use Rattle.edd_commands.specs.Capacity.{IsStepAt}
use Rattle.edd_commands.proofs.steps.first_fault.Given as goal

abbrev pub invariant-loop-place : goal.invariant-loop-place
invariant-loop-place l = record {
  start : (d : Step) → (get_or l.steps 0 d).from ≡ 0;
  before : (k : ℕ) → k < l.place → IsStepAt l.steps k;
}
