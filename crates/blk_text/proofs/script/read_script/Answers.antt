use Rattle.std.proofs.Common.{arith}
use Rattle.blk_text.specs.Script.{script_form}
use Rattle.blk_text.proofs.ScriptLaws.{title_at, title_told, few_halts, setup_depth, script_in, script_read, title_halts, setup_halts, steps_halt}
use Rattle.blk_records.proofs.Reading.{halts_err, halts_reached}
use Rattle.blk_text.proofs.script.read_script.Goals as goal

pub returns-in-Ok-read_records-clause-in_range : goal.returns-in-Ok-read_records-clause-in_range
returns-in-Ok-read_records-clause-in_range g c =
    let fit = c.in-Ok-read_records.ensures.fit in
    script_in (c.in-Ok.title.0, title_at c.in-Ok.title.1) c.in-Ok-read_record.setup c.in-Ok-read_records.lines.items (title_told c.args.records.now.left c.read_title.new.records.left c.in-Ok.title c.in-Ok.ensures.ok (omega arith)).1 (omega arith) c.in-Ok-read_record.ensures.fits fit.0 fit.1

pub returns-in-Ok-read_records-clause-ok : goal.returns-in-Ok-read_records-clause-ok
returns-in-Ok-read_records-clause-ok g c =
    script_read c.args.records.now.left c.read_title.new.records.left c.read_record.new.records.left (c.in-Ok.title.0, title_at c.in-Ok.title.1) c.in-Ok-read_record.setup c.in-Ok-read_records.lines.items
    (title_told c.args.records.now.left c.read_title.new.records.left c.in-Ok.title c.in-Ok.ensures.ok (omega arith)).0 c.in-Ok-read_record.ensures.ok c.in-Ok-read_records.ensures.ok c.in-Ok-read_record.ensures.fits

pub invariant_of-setup_form : goal.invariant_of-setup_form
invariant_of-setup_form g c =
    let is = (title_told c.args.records.now.left c.read_title.new.records.left c.in-Ok.title c.in-Ok.ensures.ok (omega arith)).1 in
    record { depth_in = setup_depth (c.in-Ok.title.0, title_at c.in-Ok.title.1) is; hw_in = is.hw }

pub returns-then-submitters-queues-clause-err : goal.returns-then-submitters-queues-clause-err
returns-then-submitters-queues-clause-err g c = halts_err _ script_form _ _ _ (few_halts c.read_title.new.records.failed c.args.records.now.left c.read_title.new.records.left c.in-Ok.title c.fault.result.at c.fault.result.why (omega (arith, c.requires, c.read_title.ensures.at, c.fault.ensures.at)) c.fault.ensures.why c.in-Ok.ensures.ok (omega arith))

pub returns-then-submitters-queues-clause-reached : goal.returns-then-submitters-queues-clause-reached
returns-then-submitters-queues-clause-reached g c = halts_reached _ script_form _ _ _ (few_halts c.read_title.new.records.failed c.args.records.now.left c.read_title.new.records.left c.in-Ok.title c.fault.result.at c.fault.result.why (omega (arith, c.requires, c.read_title.ensures.at, c.fault.ensures.at)) c.fault.ensures.why c.in-Ok.ensures.ok (omega arith))

pub returns-in-Err-clause-err : goal.returns-in-Err-clause-err
returns-in-Err-clause-err g c = halts_err _ script_form _ _ _ (title_halts _ _ _ _ (omega (arith, c.requires, c.read_title.ensures.at, c.in-Err.ensures.last)) c.in-Err.ensures.err)

pub returns-in-Err-clause-reached : goal.returns-in-Err-clause-reached
returns-in-Err-clause-reached g c = halts_reached _ script_form _ _ _ (title_halts _ _ _ _ (omega (arith, c.requires, c.read_title.ensures.at, c.in-Err.ensures.last)) c.in-Err.ensures.err)

pub returns-in-Err-read_record-clause-err : goal.returns-in-Err-read_record-clause-err
returns-in-Err-read_record-clause-err g c = halts_err _ script_form _ _ _ (setup_halts _ _ _ (c.in-Ok.title.0, title_at c.in-Ok.title.1) _ _ _ (omega arith) (title_told c.args.records.now.left c.read_title.new.records.left c.in-Ok.title c.in-Ok.ensures.ok (omega arith)).1 (title_told c.args.records.now.left c.read_title.new.records.left c.in-Ok.title c.in-Ok.ensures.ok (omega arith)).0 c.in-Err-read_record.ensures.err)

pub returns-in-Err-read_record-clause-reached : goal.returns-in-Err-read_record-clause-reached
returns-in-Err-read_record-clause-reached g c = halts_reached _ script_form _ _ _ (setup_halts _ _ _ (c.in-Ok.title.0, title_at c.in-Ok.title.1) _ _ _ (omega arith) (title_told c.args.records.now.left c.read_title.new.records.left c.in-Ok.title c.in-Ok.ensures.ok (omega arith)).1 (title_told c.args.records.now.left c.read_title.new.records.left c.in-Ok.title c.in-Ok.ensures.ok (omega arith)).0 c.in-Err-read_record.ensures.err)

pub returns-in-Err-read_records-clause-err : goal.returns-in-Err-read_records-clause-err
returns-in-Err-read_records-clause-err g c =
    halts_err _ script_form _ _ _ (steps_halt c.read_records.new.records.failed c.args.records.now.left c.read_title.new.records.left c.read_record.new.records.left (c.in-Ok.title.0, title_at c.in-Ok.title.1) c.in-Ok-read_record.setup c.read_title.new.records.at c.read_record.new.records.at c.in-Err-read_records.fault.at c.in-Err-read_records.fault.why (omega arith) (omega arith) (title_told c.args.records.now.left c.read_title.new.records.left c.in-Ok.title c.in-Ok.ensures.ok (omega arith)).1 (title_told c.args.records.now.left c.read_title.new.records.left c.in-Ok.title c.in-Ok.ensures.ok (omega arith)).0 c.in-Ok-read_record.ensures.ok c.in-Err-read_records.ensures.err)

pub returns-in-Err-read_records-clause-reached : goal.returns-in-Err-read_records-clause-reached
returns-in-Err-read_records-clause-reached g c =
    halts_reached _ script_form _ _ _ (steps_halt c.read_records.new.records.failed c.args.records.now.left c.read_title.new.records.left c.read_record.new.records.left (c.in-Ok.title.0, title_at c.in-Ok.title.1) c.in-Ok-read_record.setup c.read_title.new.records.at c.read_record.new.records.at c.in-Err-read_records.fault.at c.in-Err-read_records.fault.why (omega arith) (omega arith) (title_told c.args.records.now.left c.read_title.new.records.left c.in-Ok.title c.in-Ok.ensures.ok (omega arith)).1 (title_told c.args.records.now.left c.read_title.new.records.left c.in-Ok.title c.in-Ok.ensures.ok (omega arith)).0 c.in-Ok-read_record.ensures.ok c.in-Err-read_records.ensures.err)
