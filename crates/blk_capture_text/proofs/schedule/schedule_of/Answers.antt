use Rattle.blk_capture_text.proofs.Imported.{may_be_written}
use Rattle.blk_capture_text.proofs.schedule.schedule_of.Goals as goal

pub returns-clause-ran : goal.returns-clause-ran
returns-clause-ran c =
    let all = c.in_ok-counted.ensures in
    may_be_written c.args.requests.now c.in_ok-counted.counted.commands.items c.in_ok-counted.counted.rounds.items c.requires.few all.counted all.solvable all.in_range
