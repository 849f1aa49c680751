use Rattle.std.proofs.Common.{ℕ, ◌<◌, get_or, length}
use Rattle.edd_commands.specs.declared.Command.{Command}
use Rattle.edd_oracle.proofs.input.rise.Given as goal

-- each id before is below that of the place before
abbrev pub invariant-loop-i : goal.invariant-loop-i
invariant-loop-i l = (j k : ℕ) (d : Command) → j < k → k < l.i → k < length l.commands → (get_or l.commands j d).id < (get_or l.commands k d).id
