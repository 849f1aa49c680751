-- Which scheduler ran.
use Rattle.std.specs.Prelude.{ℕ}
use Rattle.blk_trace.specs.Traces.{Traced}
use Rattle.blk_core.specs.Runs.{IsRunBy}
use Rattle.blk_schedulers.specs.Scheds.{policy_of, first_meaning, numbers_at_first}
use Rattle.blk_schedulers.specs.declared.sched.Sched.{Sched}

-- a trace is one that a scheduler of these settings makes, which begins with this depth: each command in it is one that it chose
abbrev pub IsRunUnder : Sched → ℕ → Traced → Type 0
IsRunUnder s depth trace = IsRunBy (policy_of s) (first_meaning s) (numbers_at_first s depth) trace
