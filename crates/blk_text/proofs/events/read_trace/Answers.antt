use Rattle.std.proofs.Common.{ap, arith, get_or}
use Rattle.blk_trace.specs.Traces.{Traced}
use Rattle.blk_text.proofs.EventLaws.{setup_depth, title_at, title_told}
use Rattle.blk_text.proofs.TraceLaws.{setup_fails, trace_read, trace_in, size_is, events_fail_of, events_held_of}
use Rattle.blk_text.proofs.events.read_trace.Goals as goal

pub invariant_of-setup_form : goal.invariant_of-setup_form
invariant_of-setup_form g c =
    let is = (title_told c.args.records.now.left c.read_title.new.records.left c.in-Ok.title c.in-Ok.ensures.ok).1.1 in
    record { depth_in = setup_depth (c.in-Ok.title.0, title_at c.in-Ok.title.1) is; hw_in = is.hw }

pub returns-in-Err-read_record-clause-err : goal.returns-in-Err-read_record-clause-err
returns-in-Err-read_record-clause-err g c =
    setup_fails c.read_record.new.records.failed c.args.records.now.left c.read_title.new.records.left (c.in-Ok.title.0, title_at c.in-Ok.title.1) c.read_title.new.records.at c.in-Err-read_record.fault.at c.in-Err-read_record.fault.why
    (omega (arith, c.requires, c.read_title.ensures.at)) (title_told c.args.records.now.left c.read_title.new.records.left c.in-Ok.title c.in-Ok.ensures.ok).0 c.in-Err-read_record.ensures.err

pub returns-in-Ok-read_events-clause-ok : goal.returns-in-Ok-read_events-clause-ok
returns-in-Ok-read_events-clause-ok g c =
    trace_read c.args.records.now.left c.read_title.new.records.left c.read_record.new.records.left (c.in-Ok.title.0, title_at c.in-Ok.title.1) c.in-Ok-empty.none.setup c.in-Ok-read_record.setup c.in-Ok-read_events.trace
    c.in-Ok-read_events.ensures.setup (ap (λ (t : Traced). t.setup) c.in-Ok-empty.ensures) c.in-Ok-read_record.ensures.fits c.in-Ok-read_events.ensures.fit.1 (title_told c.args.records.now.left c.read_title.new.records.left c.in-Ok.title c.in-Ok.ensures.ok).0 c.in-Ok-read_record.ensures.ok c.in-Ok-read_events.ensures.ok

pub returns-in-Ok-read_events-clause-in_range : goal.returns-in-Ok-read_events-clause-in_range
returns-in-Ok-read_events-clause-in_range g c =
    trace_in c.in-Ok-read_events.trace c.in-Ok.title.0 (get_or c.in-Ok.title.1 2 0) (get_or c.in-Ok.title.1 3 0) (get_or c.in-Ok.title.1 4 0) c.in-Ok-empty.none.setup c.in-Ok-read_record.setup c.in-Ok-read_events.ensures.setup (ap (λ (t : Traced). t.setup) c.in-Ok-empty.ensures)
    c.in-Ok-read_record.ensures.fits c.in-Ok-read_events.ensures.fit c.events.ensures.legal

pub returns-in-Ok-read_events-clause-end : goal.returns-in-Ok-read_events-clause-end
returns-in-Ok-read_events-clause-end g c =
    let end = c.in-Ok-read_events.ensures.end in
    omega (arith, end, size_is c.in-Ok.title.0 c.in-Ok-empty.none.setup c.in-Ok-read_events.trace)

pub returns-in-Err-read_events-clause-err : goal.returns-in-Err-read_events-clause-err
returns-in-Err-read_events-clause-err g c =
    events_fail_of _ c.args.records.now.left c.read_title.new.records.left c.read_record.new.records.left (c.in-Ok.title.0, title_at c.in-Ok.title.1) c.in-Ok-empty.none.setup c.in-Ok-read_record.setup c.read_title.new.records.at c.in-Err-read_events.fault.at c.in-Err-read_events.fault.why
    (ap (λ (t : Traced). t.setup) c.in-Ok-empty.ensures) (omega arith) (title_told c.args.records.now.left c.read_title.new.records.left c.in-Ok.title c.in-Ok.ensures.ok).0 c.in-Ok-read_record.ensures.ok c.in-Err-read_events.ensures.err

pub returns-in-Err-read_events-clause-before : goal.returns-in-Err-read_events-clause-before
returns-in-Err-read_events-clause-before g c =
    events_held_of c.args.records.now.left c.read_title.new.records.left c.read_record.new.records.left (c.in-Ok.title.0, title_at c.in-Ok.title.1) c.in-Ok-empty.none.setup c.in-Ok-read_record.setup c.in-Err-read_events.fault.at c.read_events.new.records.at
    (ap (λ (t : Traced). t.setup) c.in-Ok-empty.ensures) (title_told c.args.records.now.left c.read_title.new.records.left c.in-Ok.title c.in-Ok.ensures.ok).1.1 (title_told c.args.records.now.left c.read_title.new.records.left c.in-Ok.title c.in-Ok.ensures.ok).0 c.in-Ok-read_record.ensures.ok c.in-Err-read_events.ensures.before
