-- What is drawn of a schedule.
use Rattle.std.specs.Prelude.{ℕ, List}
use Rattle.edd_commands.specs.Capacity.{fixed}
use Rattle.blk_judge.specs.Drawing.{IsSchedulePicture}
use Rattle.blk_records.specs.Schedule.{ScheduleView}

-- the picture of a schedule under its depth in every round
abbrev pub IsScheduleDrawn : ScheduleView → List ℕ → Type 0
IsScheduleDrawn s text = IsSchedulePicture s.commands s.rounds (fixed s.depth) text
