use Rattle.std.proofs.Common.{rules, ◌≡◌, ◌+◌, true, false, arith}
use Rattle.csv.specs.Records.{fields_of}
use Rattle.blk_records.specs.Sources.{TakesRecord}
use Rattle.blk_records.specs.Reads.{size_of}
use Rattle.blk_text.specs.TraceForm.{event}
use Rattle.blk_text.proofs.EventLaws.{gathered_at, events_err, stopped_at, past_stopped, events_end, events_past}
use Rattle.blk_text.proofs.events.read_events.Goals as goal

pub returns-in-Err-clause-err : goal.returns-in-Err-clause-err
returns-in-Err-clause-err g c =
    events_err c.args.version c.args.count c.args.trace.setup c.setup.result _ c.args.records.now.left c.args.records.now.at c.in-Err.fault.at c.in-Err.fault.why c.setup.ensures c.requires.at c.in-Err.ensures.err

pub returns-in-Err-clause-before : goal.returns-in-Err-clause-before
returns-in-Err-clause-before g c =
    stopped_at c.args.version c.args.count c.args.trace.setup c.setup.result c.args.records.now.left c.args.records.now.at c.in-Err.fault.at c.gather.new.records.at c.setup.ensures c.requires.at c.in-Err.ensures.before

pub returns-in-Ok-false-advance-clause-ok : goal.returns-in-Ok-false-advance-clause-ok
returns-in-Ok-false-advance-clause-ok g c =
    let got = gathered_at c.args.version c.args.count c.args.trace.setup c.setup.result c.args.records.now.left c.gather.new.records.left c.args.records.now.at c.gather.new.records.at c.gather.new.items.events c.setup.ensures c.requires.at (rw c.in-Ok-false.field-0-test at c.in-Ok-false.ensures.ok.1) in
    let taken : TakesRecord c.gather.new.records.left c.advance.new.self.left c.advance.new.self.fields false = search rules in
    events_end c.args.version c.args.count c.args.trace.setup c.args.records.now.left c.gather.new.records.left c.advance.new.self.left c.gather.new.items.events c.advance.new.self.fields got.0 taken

pub returns-in-Ok-false-advance-clause-fit : goal.returns-in-Ok-false-advance-clause-fit
returns-in-Ok-false-advance-clause-fit g c =
    let got = gathered_at c.args.version c.args.count c.args.trace.setup c.setup.result c.args.records.now.left c.gather.new.records.left c.args.records.now.at c.gather.new.records.at c.gather.new.items.events c.setup.ensures c.requires.at (rw c.in-Ok-false.field-0-test at c.in-Ok-false.ensures.ok.1) in
    got.1

pub returns-in-Err-advance-clause-before : goal.returns-in-Err-advance-clause-before
returns-in-Err-advance-clause-before g c =
    let got = gathered_at c.args.version c.args.count c.args.trace.setup c.setup.result c.args.records.now.left c.gather.new.records.left c.args.records.now.at c.gather.new.records.at c.gather.new.items.events c.setup.ensures c.requires.at (rw c.in-Ok-false.field-0-test at c.in-Ok-false.ensures.ok.1) in
    let before = got.3 in
    past_stopped c.args.version c.args.count c.args.trace.setup c.args.records.now.left c.gather.new.records.left c.gather.new.items.events c.in-Err-advance.fault.at c.advance.new.self.at got.0 got.2 c.in-Err-advance.ensures.fault.0 (omega (arith, before))

pub returns-clause-err : goal.returns-clause-err
returns-clause-err g c =
    let got = gathered_at c.args.version c.args.count c.args.trace.setup c.setup.result c.args.records.now.left c.gather.new.records.left c.args.records.now.at c.gather.new.records.at c.gather.new.items.events c.setup.ensures c.requires.at (rw c.in-Ok-false.field-0-test at c.in-Ok-false.ensures.ok.1) in
    let taken : TakesRecord c.gather.new.records.left c.advance.new.self.left c.advance.new.self.fields true = search rules in
    let before = got.3 in
    let at : c.fault.result.at ≡ 2 + size_of (event c.args.version c.args.trace.setup) c.gather.new.items.events + 1 = omega (arith, before) in
    rw c.fault.ensures.why
    (events_past c.args.version c.args.count c.args.trace.setup c.setup.result _ c.args.records.now.left c.gather.new.records.left c.advance.new.self.left c.gather.new.items.events c.advance.new.self.fields (fields_of c.row.result.now)
    c.fault.result.at _ c.setup.ensures c.row.ensures got.0 taken at c.past_fault-why.ensures)

pub returns-clause-before : goal.returns-clause-before
returns-clause-before g c =
    let got = gathered_at c.args.version c.args.count c.args.trace.setup c.setup.result c.args.records.now.left c.gather.new.records.left c.args.records.now.at c.gather.new.records.at c.gather.new.items.events c.setup.ensures c.requires.at (rw c.in-Ok-false.field-0-test at c.in-Ok-false.ensures.ok.1) in
    let before = got.3 in
    past_stopped c.args.version c.args.count c.args.trace.setup c.args.records.now.left c.gather.new.records.left c.gather.new.items.events c.fault.result.at c.advance.new.self.at got.0 got.2 c.fault.ensures.at (omega (arith, before))
