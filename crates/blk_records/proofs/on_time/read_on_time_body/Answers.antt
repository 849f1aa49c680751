use Rattle.std.proofs.Common.{◌≡◌, ◌+◌, ℕ, ap, length, refl, arith, inr}
use Rattle.std.proofs.lemmas.List.{length-map}
use Rattle.edd_commands.specs.declared.Command.{Command}
use Rattle.blk_records.proofs.OnTimeLaws.{on_time_in, body_read, numbers_halt, windows_halt, served_halt, whole_halt}
use Rattle.blk_records.proofs.on_time.read_on_time_body.Goals as goal

pub returns-in-Ok-split-clause-in_range : goal.returns-in-Ok-split-clause-in_range
returns-in-Ok-split-clause-in_range g c =
    let is = c.as_slice.ensures.value in
    let fit = c.in-Ok-read_records.ensures.fit in
    let all = c.in-Ok-read_windows.ensures.fit in
    let n = c.in-Ok.numbers in
    on_time_in c.args.depth c.args.count n.0 n.1 c.in-Ok-read_windows.cover.items c.in-Ok-read_records.served.items c.in-Ok-split.commands.items c.in-Ok-split.rounds.items
    c.requires.counted c.in-Ok.ensures.fits all.0 all.1 fit.0 fit.1 (rw is at c.in-Ok-split.ensures.commands) (rw is at c.in-Ok-split.ensures.rounds)

pub returns-in-Ok-split-clause-ok : goal.returns-in-Ok-split-clause-ok
returns-in-Ok-split-clause-ok g c =
    let is = c.as_slice.ensures.value in
    let n = c.in-Ok.numbers in
    body_read c.args.records.now.left c.read_record.new.records.left c.read_windows.new.records.left c.args.count n.0 n.1 c.in-Ok-read_windows.cover.items c.in-Ok-read_records.served.items
    c.in-Ok-split.commands.items c.in-Ok-split.rounds.items c.in-Ok.ensures.ok c.in-Ok-read_windows.ensures.ok c.in-Ok-read_records.ensures.ok c.in-Ok-read_windows.ensures.fit.1
    (rw is at c.in-Ok-split.ensures.commands) (rw is at c.in-Ok-split.ensures.rounds)

pub returns-in-Ok-split-clause-told : goal.returns-in-Ok-split-clause-told
returns-in-Ok-split-clause-told g c =
    let is = c.as_slice.ensures.value in
    let commands = ap length (rw is at c.in-Ok-split.ensures.commands) in
    let long = length-map c.in-Ok-read_records.served.items (λ (s : Command × ℕ). s.0) in
    let fit = c.in-Ok-read_records.ensures.fit.1 in
    (refl, omega (arith, fit, commands, long))

pub returns-in-Ok-split-clause-end : goal.returns-in-Ok-split-clause-end
returns-in-Ok-split-clause-end g c =
    let is = c.as_slice.ensures.value in
    let commands = ap length (rw is at c.in-Ok-split.ensures.commands) in
    let long = length-map c.in-Ok-read_records.served.items (λ (s : Command × ℕ). s.0) in
    omega (arith, c.in-Ok-read_records.ensures.end, c.in-Ok-read_windows.ensures.end, commands, long)

pub returns-in-Err-clause-err : goal.returns-in-Err-clause-err
returns-in-Err-clause-err g c = numbers_halt _ _ _ _ _ _ c.requires.at c.in-Err.ensures.err

pub returns-in-Err-read_windows-clause-err : goal.returns-in-Err-read_windows-clause-err
returns-in-Err-read_windows-clause-err g c =
    windows_halt _ _ _ c.args.count c.in-Ok.numbers c.read_record.new.records.at _ _ (omega arith) c.in-Ok.ensures.ok c.in-Err-read_windows.ensures.err

pub returns-in-Err-read_records-clause-err : goal.returns-in-Err-read_records-clause-err
returns-in-Err-read_records-clause-err g c =
    served_halt c.read_records.new.records.failed c.args.records.now.left c.read_record.new.records.left c.read_windows.new.records.left c.args.count c.in-Ok.numbers c.in-Ok-read_windows.cover.items c.read_record.new.records.at c.read_windows.new.records.at
    c.in-Err-read_records.fault.at c.in-Err-read_records.fault.why (omega arith) c.in-Ok-read_windows.ensures.end c.in-Ok.ensures.ok c.in-Ok-read_windows.ensures.ok c.in-Err-read_records.ensures.err

pub returns-in-Err-split-clause-err : goal.returns-in-Err-split-clause-err
returns-in-Err-split-clause-err g c =
    let at : c.fault.result.at ≡ length c.in-Ok-read_windows.cover.items + length c.in-Ok-read_records.served.items + 3 = omega (arith, c.in-Ok-read_records.ensures.end, c.in-Ok-read_windows.ensures.end, c.fault.ensures.at) in
    whole_halt c.read_records.new.records.failed c.args.records.now.left c.read_record.new.records.left c.read_windows.new.records.left c.args.count c.in-Ok.numbers c.in-Ok-read_windows.cover.items c.in-Ok-read_records.served.items
    c.fault.result.at c.fault.result.why c.in-Ok.ensures.ok c.in-Ok-read_windows.ensures.ok c.in-Ok-read_records.ensures.ok at (inr c.fault.ensures.why)
