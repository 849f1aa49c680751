-- What comes of a run under one setting.
use Rattle.std.specs.Prelude.{◌≡◌, Result, Ok, Err}
use Rattle.blk_text.specs.Script.{Scripted}
use Rattle.blk_schedulers.specs.declared.sched.Sched.{Sched}
use Rattle.blk_runs.specs.declared.fault.RunFault.{RunFault}
use Rattle.blk_runs.specs.Runs.{IsRunFault}
use Rattle.blk_tune.specs.declared.row.TrialRow.{TrialRow}
use Rattle.blk_tune.specs.Row.{IsRow}

-- what becomes of a run under a setting: its row, or why it has none
abbrev pub IsRunAnswer : Scripted → Sched → Result TrialRow RunFault → Type 0
IsRunAnswer script s (Ok r) = (r.sched ≡ s) × IsRow script r
IsRunAnswer script s (Err f) = IsRunFault s script f
