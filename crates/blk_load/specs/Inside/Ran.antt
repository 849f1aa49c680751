-- What ran in a load.
use Rattle.std.specs.Prelude.{ℕ}
use Rattle.blk_core.specs.Runs.{IsRunBy}
use Rattle.blk_sched.specs.Policies.{Policy}
use Rattle.blk_schedulers.specs.Scheds.{policy_of, first_meaning, numbers_at_first}
use Rattle.blk_schedulers.specs.declared.Loaded.{Loaded}
use Rattle.blk_schedulers.specs.declared.sched.Sched.{Sched}

-- its trace is one that this policy makes from the start of a scheduler of these settings, which is told this depth at first; and by the
-- policy of that scheduler
abbrev pub RanBy : Policy → Sched → ℕ → Loaded → Type 0
RanBy policy s depth l = IsRunBy policy (first_meaning s) (numbers_at_first s depth) l.trace

abbrev pub RanUnder : Sched → ℕ → Loaded → Type 0
RanUnder s depth l = RanBy (policy_of s) s depth l
