-- What is asked of a trial.
use Rattle.std.specs.Prelude.{ℕ, List, Option}
use Rattle.blk_schedulers.specs.declared.grid.RankBy.{RankBy}
use Rattle.blk_schedulers.specs.declared.grid.TrialAsked.{TrialAsked}
use Rattle.blk_schedulers.specs.declared.sched.Sched.{Sched}

-- how many runs go side by side is none of it: the rows don't turn on that
pub record Wanted : Type 0 where
  pub grid : List Sched
  pub by : RankBy
  pub top : Option ℕ

abbrev pub as_wanted : TrialAsked → Wanted
as_wanted a = record { grid = a.grid.items; by = a.by; top = a.top }
