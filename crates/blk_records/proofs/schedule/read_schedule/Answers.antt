use Rattle.std.proofs.Common.{◌≡◌, ◌+◌, ap, length, arith, get_or, inr}
use Rattle.std.proofs.lemmas.List.{length-map}
use Rattle.std.specs.Prelude.{ℕ}
use Rattle.edd_commands.specs.declared.Command.{Command}
use Rattle.blk_records.specs.Schedule.{schedule_form}
use Rattle.blk_records.proofs.Reading.{halts_err, halts_reached}
use Rattle.blk_records.proofs.ScheduleLaws.{schedule_in, schedule_read, title_halts, title_told, body_halts, whole_halts}
use Rattle.blk_records.proofs.schedule.read_schedule.Goals as goal

pub returns-in-Ok-split-clause-ok : goal.returns-in-Ok-split-clause-ok
returns-in-Ok-split-clause-ok g c =
    let is = c.as_slice.ensures.value in
    let title = c.in-Ok.title in
    schedule_read c.args.records.now.left c.read_title.new.records.left title.0 (get_or title.1 2 0) (get_or title.1 3 0) c.in-Ok-read_new.served.items c.in-Ok-split.commands.items c.in-Ok-split.rounds.items
    (title_told _ _ c.in-Ok.title c.in-Ok.ensures.ok).0 (title_told _ _ c.in-Ok.title c.in-Ok.ensures.ok).1.0 c.in-Ok-read_new.ensures.ok c.in-Ok-read_new.ensures.fit.1 (rw is at c.in-Ok-split.ensures.commands) (rw is at c.in-Ok-split.ensures.rounds)

pub returns-in-Ok-split-clause-in_range : goal.returns-in-Ok-split-clause-in_range
returns-in-Ok-split-clause-in_range g c =
    let is = c.as_slice.ensures.value in
    let title = c.in-Ok.title in
    let fit = c.in-Ok-read_new.ensures.fit in
    schedule_in (get_or title.1 2 0) (get_or title.1 3 0) c.in-Ok-read_new.served.items c.in-Ok-split.commands.items c.in-Ok-split.rounds.items (title_told _ _ c.in-Ok.title c.in-Ok.ensures.ok).1.1 fit.0 fit.1
    (rw is at c.in-Ok-split.ensures.commands) (rw is at c.in-Ok-split.ensures.rounds)

pub returns-in-Ok-split-clause-end : goal.returns-in-Ok-split-clause-end
returns-in-Ok-split-clause-end g c =
    let is = c.as_slice.ensures.value in
    let commands = ap length (rw is at c.in-Ok-split.ensures.commands) in
    let long = length-map c.in-Ok-read_new.served.items (λ (s : Command × ℕ). s.0) in
    omega (arith, c.in-Ok-read_new.ensures.end, commands, long)

pub returns-in-Err-clause-err : goal.returns-in-Err-clause-err
returns-in-Err-clause-err g c = halts_err _ schedule_form _ _ _ (title_halts _ _ _ _ (omega (arith, c.requires, c.read_title.ensures.at, c.in-Err.ensures.last)) c.in-Err.ensures.err)

pub returns-in-Err-clause-reached : goal.returns-in-Err-clause-reached
returns-in-Err-clause-reached g c = halts_reached _ schedule_form _ _ _ (title_halts _ _ _ _ (omega (arith, c.requires, c.read_title.ensures.at, c.in-Err.ensures.last)) c.in-Err.ensures.err)

pub returns-in-Err-read_new-clause-err : goal.returns-in-Err-read_new-clause-err
returns-in-Err-read_new-clause-err g c = halts_err _ schedule_form _ _ _ (body_halts _ _ _ (c.in-Ok.title.0, (get_or c.in-Ok.title.1 2 0, get_or c.in-Ok.title.1 3 0)) c.read_title.new.records.at _ _ (omega arith) (title_told _ _ c.in-Ok.title c.in-Ok.ensures.ok).0 c.in-Err-read_new.ensures.err)

pub returns-in-Err-read_new-clause-reached : goal.returns-in-Err-read_new-clause-reached
returns-in-Err-read_new-clause-reached g c = halts_reached _ schedule_form _ _ _ (body_halts _ _ _ (c.in-Ok.title.0, (get_or c.in-Ok.title.1 2 0, get_or c.in-Ok.title.1 3 0)) c.read_title.new.records.at _ _ (omega arith) (title_told _ _ c.in-Ok.title c.in-Ok.ensures.ok).0 c.in-Err-read_new.ensures.err)

pub returns-clause-err : goal.returns-clause-err
returns-clause-err g c =
    let at : c.fault.result.at ≡ length c.in-Ok-read_new.served.items + 2 = omega (arith, c.in-Ok-read_new.ensures.end, c.fault.ensures.at) in
    halts_err _ schedule_form _ _ _ (whole_halts c.read_new.new.records.failed c.args.records.now.left c.read_title.new.records.left (c.in-Ok.title.0, (get_or c.in-Ok.title.1 2 0, get_or c.in-Ok.title.1 3 0)) c.in-Ok-read_new.served.items c.fault.result.at c.fault.result.why (title_told _ _ c.in-Ok.title c.in-Ok.ensures.ok).0 c.in-Ok-read_new.ensures.ok at (inr c.fault.ensures.why))

pub returns-clause-reached : goal.returns-clause-reached
returns-clause-reached g c =
    let at : c.fault.result.at ≡ length c.in-Ok-read_new.served.items + 2 = omega (arith, c.in-Ok-read_new.ensures.end, c.fault.ensures.at) in
    halts_reached _ schedule_form _ _ _ (whole_halts c.read_new.new.records.failed c.args.records.now.left c.read_title.new.records.left (c.in-Ok.title.0, (get_or c.in-Ok.title.1 2 0, get_or c.in-Ok.title.1 3 0)) c.in-Ok-read_new.served.items c.fault.result.at c.fault.result.why (title_told _ _ c.in-Ok.title c.in-Ok.ensures.ok).0 c.in-Ok-read_new.ensures.ok at (inr c.fault.ensures.why))
