use Rattle.std.proofs.Common.{inl}
use Rattle.blk_records.specs.Schedule.{ScheduleView, viewed, SpellsSchedule, ScheduleFault}
use Rattle.blk_cli.specs.Judging.{IsJudgedText, IsJudgeFailure, TellsEmpty}
use Rattle.blk_cli.specs.Said.{said_of}
use Rattle.blk_cli.proofs.OfRead.{told, refused}
use Rattle.blk_cli.proofs.judging.over_schedule.Goals as goal

pub returns-in-Err-clause-fails : goal.returns-in-Err-clause-fails
returns-in-Err-clause-fails g c = inl c.in-Err.ensures.err

pub returns-clause-text : goal.returns-clause-text
returns-clause-text g c =
    let s : ScheduleView = viewed c.in-Ok.schedule in
    told SpellsSchedule (IsJudgedText c.args.each) c.args.records.now.left s (λ a. (said_of a).text) _ c.in-Ok.ensures.ok c.judge_answer.ensures.text

pub returns-clause-beside : goal.returns-clause-beside
returns-clause-beside g c =
    let s : ScheduleView = viewed c.in-Ok.schedule in
    told SpellsSchedule TellsEmpty c.args.records.now.left s said_of _ c.in-Ok.ensures.ok c.judge_answer.ensures.beside

pub returns-clause-fails : goal.returns-clause-fails
returns-clause-fails g c =
    let s : ScheduleView = viewed c.in-Ok.schedule in
    refused SpellsSchedule ScheduleFault IsJudgeFailure c.args.records.now.left _ s _ c.in-Ok.ensures.ok c.judge_answer.ensures.fails
