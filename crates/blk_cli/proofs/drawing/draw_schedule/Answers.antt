use Rattle.std.proofs.Common.{inl}
use Rattle.blk_records.specs.Schedule.{ScheduleView, viewed, SpellsSchedule, ScheduleFault}
use Rattle.blk_cli.specs.Drawing.{IsScheduleDrawn}
use Rattle.blk_cli.specs.Judging.{IsJudgeFailure}
use Rattle.blk_cli.proofs.OfRead.{told, refused}
use Rattle.blk_cli.proofs.drawing.draw_schedule.Goals as goal

pub returns-in-Err-clause-fails : goal.returns-in-Err-clause-fails
returns-in-Err-clause-fails g c = inl c.in-Err.ensures.err

pub returns-clause-text : goal.returns-clause-text
returns-clause-text g c =
    let s : ScheduleView = viewed c.in-Ok.schedule in
    told SpellsSchedule IsScheduleDrawn c.args.records.now.left s (λ v. v.items) _ c.in-Ok.ensures.ok c.drawn.ensures.text

pub returns-clause-fails : goal.returns-clause-fails
returns-clause-fails g c =
    let s : ScheduleView = viewed c.in-Ok.schedule in
    refused SpellsSchedule ScheduleFault IsJudgeFailure c.args.records.now.left _ s _ c.in-Ok.ensures.ok c.drawn.ensures.fails
