use Rattle.std.proofs.Common.{rules, [], refl, true, false, arith}
use Rattle.blk_records.specs.Sources.{TakesRecord}
use Rattle.blk_capture_text.proofs.CaptureLaws.{AreTaken, fit_in_order, size_rows, taken_long, taking_halts, end_outside, past_long, past_lacks}
use Rattle.blk_capture_text.proofs.reading.read_body.Goals as goal

-- no rows have no records
pub gather-requires-clause-none : goal.gather-requires-clause-none
gather-requires-clause-none g c = (([], (c.new.ensures.items, refl)), refl)

pub returns-in-Ok-true-clause-in_order : goal.returns-in-Ok-true-clause-in_order
returns-in-Ok-true-clause-in_order g c =
    let got : AreTaken c.gather.new.items c.args.records.now.left c.gather.new.records.left c.args.records.now.at c.gather.new.records.at true = rw c.in-Ok-true.field-0-test at c.in-Ok-true.ensures.ok in
    fit_in_order got.0.0 c.gather.new.items.records.items got.0.1.0 got.1.1.0

pub returns-in-Ok-true-clause-end : goal.returns-in-Ok-true-clause-end
returns-in-Ok-true-clause-end g c =
    let got : AreTaken c.gather.new.items c.args.records.now.left c.gather.new.records.left c.args.records.now.at c.gather.new.records.at true = rw c.in-Ok-true.field-0-test at c.in-Ok-true.ensures.ok in
    let at = got.1.2 in
    omega (arith, at, size_rows got.0.0, taken_long c.gather.new.items c.args.records.now.left c.gather.new.records.left c.args.records.now.at c.gather.new.records.at true got)

pub returns-in-Err-clause-err : goal.returns-in-Err-clause-err
returns-in-Err-clause-err g c =
    taking_halts _ c.args.records.now.left c.args.records.now.at c.in-Err.fault.at c.gather.new.records.at c.in-Err.fault.why c.in-Err.ensures.before c.in-Err.ensures.err

pub returns-in-Ok-false-advance-clause-in_order : goal.returns-in-Ok-false-advance-clause-in_order
returns-in-Ok-false-advance-clause-in_order g c =
    let got : AreTaken c.gather.new.items c.args.records.now.left c.gather.new.records.left c.args.records.now.at c.gather.new.records.at false = rw c.in-Ok-false.field-0-test at c.in-Ok-false.ensures.ok in
    fit_in_order got.0.0 c.gather.new.items.records.items got.0.1.0 got.1.1.0

pub returns-in-Ok-false-advance-clause-end : goal.returns-in-Ok-false-advance-clause-end
returns-in-Ok-false-advance-clause-end g c =
    let got : AreTaken c.gather.new.items c.args.records.now.left c.gather.new.records.left c.args.records.now.at c.gather.new.records.at false = rw c.in-Ok-false.field-0-test at c.in-Ok-false.ensures.ok in
    let at = got.1.3 in
    omega (arith, at, size_rows got.0.0, taken_long c.gather.new.items c.args.records.now.left c.gather.new.records.left c.args.records.now.at c.gather.new.records.at false got)

pub returns-in-Err-advance-clause-err : goal.returns-in-Err-advance-clause-err
returns-in-Err-advance-clause-err g c =
    let got : AreTaken c.gather.new.items c.args.records.now.left c.gather.new.records.left c.args.records.now.at c.gather.new.records.at false = rw c.in-Ok-false.field-0-test at c.in-Ok-false.ensures.ok in
    let fault = c.in-Err-advance.ensures.fault in
    let same = fault.0 in
    end_outside _ c.gather.new.items c.args.records.now.left c.gather.new.records.left c.args.records.now.at c.gather.new.records.at c.in-Err-advance.fault.at c.in-Err-advance.fault.why got (omega (arith, same)) fault.1

pub returns-in-Ok-clause-err : goal.returns-in-Ok-clause-err
returns-in-Ok-clause-err g c =
    let got : AreTaken c.gather.new.items c.args.records.now.left c.gather.new.records.left c.args.records.now.at c.gather.new.records.at false = rw c.in-Ok-false.field-0-test at c.in-Ok-false.ensures.ok in
    let taken : TakesRecord c.gather.new.records.left c.advance.new.self.left c.advance.new.self.fields true = search rules in
    rw c.fault.ensures.why
    (past_long _ c.gather.new.items c.args.records.now.left c.gather.new.records.left c.advance.new.self.left c.args.records.now.at c.gather.new.records.at c.fault.result.at c.advance.new.self.fields got taken (omega (arith, c.fault.ensures.at))
    (rw c.row.ensures at c.in-Ok.ensures.after))

pub returns-clause-err : goal.returns-clause-err
returns-clause-err g c =
    let got : AreTaken c.gather.new.items c.args.records.now.left c.gather.new.records.left c.args.records.now.at c.gather.new.records.at false = rw c.in-Ok-false.field-0-test at c.in-Ok-false.ensures.ok in
    let taken : TakesRecord c.gather.new.records.left c.advance.new.self.left c.advance.new.self.fields true = search rules in
    rw c.fault-in-Err-read_row.ensures.why
    (past_lacks _ c.gather.new.items c.args.records.now.left c.gather.new.records.left c.advance.new.self.left c.args.records.now.at c.gather.new.records.at c.fault-in-Err-read_row.result.at c.advance.new.self.fields _ got taken
    (omega (arith, c.fault-in-Err-read_row.ensures.at)) (rw c.row.ensures at c.in-Err-read_row.ensures.err))
