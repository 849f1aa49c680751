use Rattle.std.proofs.Common.{rules, ◌≡◌}
use Rattle.blk_records.specs.Schedule.{viewed}
use Rattle.blk_judge.specs.Drawing.{IsSchedulePicture}
use Rattle.blk_cli.proofs.Schedules.{taken_of, rounds_of, told_of, refused_as}
use Rattle.blk_cli.proofs.drawing.drawn.Goals as goal

pub schedule_picture-requires-clause-taken : goal.schedule_picture-requires-clause-taken
schedule_picture-requires-clause-taken c = taken_of (viewed c.args.schedule.now) c.requires c.as_slice-commands.result.now (search rules)

pub schedule_picture-requires-clause-rounds_in : goal.schedule_picture-requires-clause-rounds_in
schedule_picture-requires-clause-rounds_in c = rounds_of (viewed c.args.schedule.now) c.requires c.as_slice-rounds.result.now (search rules)

pub returns-in-Ok-schedule_picture-clause-text : goal.returns-in-Ok-schedule_picture-clause-text
returns-in-Ok-schedule_picture-clause-text c =
    let s = viewed c.args.schedule.now in
    let commands : c.as_slice-commands.result.now ≡ s.commands = search rules in
    let rounds : c.as_slice-rounds.result.now ≡ s.rounds = search rules in
    told_of s c.as_slice-commands.result.now c.as_slice-rounds.result.now _ commands rounds (search rules) (λ cs rs ss. IsSchedulePicture cs rs ss c.in-Ok-schedule_picture.text.items) c.in-Ok-schedule_picture.ensures.drawn
