-- A trace's rounds lie within the limits of the check.
use Rattle.std.proofs.Common.{ℕ, List, arith}
use Rattle.edd_commands.specs.declared.Command.{Command}
use Rattle.edd_commands.specs.Schedule.{RoundsInRange}
use Rattle.blk_trace.specs.Laws.{AreBounded}

pub rounds_in : (commands : List Command) (rounds : List ℕ) → AreBounded commands rounds → RoundsInRange rounds
rounds_in commands rounds b = λ k d lt. let h = b.in_time k d lt in omega (arith, h)
