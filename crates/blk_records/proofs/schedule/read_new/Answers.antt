use Rattle.std.proofs.Common.{rules, ◌≡◌, ◌+◌, true, false, arith}
use Rattle.blk_records.specs.Sources.{TakesRecord}
use Rattle.blk_records.specs.Reads.{AreGathered}
use Rattle.blk_records.specs.Schedule.{new_record}
use Rattle.blk_records.proofs.ScheduleLaws.{new_ends, new_fit, new_size, new_halts, end_outside, past_halts}
use Rattle.text_grammar.specs.declared.Repeats.TheVariants as repeats
use Rattle.blk_records.proofs.schedule.read_new.Goals as goal

pub returns-in-Ok-false-advance-clause-ok : goal.returns-in-Ok-false-advance-clause-ok
returns-in-Ok-false-advance-clause-ok g c =
    let got : AreGathered (repeats.Exactly c.args.count) new_record c.args.records.now.left c.gather.new.records.left c.args.records.now.at c.gather.new.records.at c.gather.new.items.served.items false = rw c.in-Ok-false.field-0-test at c.in-Ok-false.ensures.ok.1 in
    let taken : TakesRecord c.gather.new.records.left c.advance.new.self.left c.advance.new.self.fields false = search rules in
    new_ends c.args.count c.args.records.now.left c.gather.new.records.left c.advance.new.self.left c.args.records.now.at c.gather.new.records.at c.gather.new.items.served.items c.advance.new.self.fields got taken

pub returns-in-Ok-false-advance-clause-fit : goal.returns-in-Ok-false-advance-clause-fit
returns-in-Ok-false-advance-clause-fit g c =
    let got : AreGathered (repeats.Exactly c.args.count) new_record c.args.records.now.left c.gather.new.records.left c.args.records.now.at c.gather.new.records.at c.gather.new.items.served.items false = rw c.in-Ok-false.field-0-test at c.in-Ok-false.ensures.ok.1 in
    new_fit c.args.count c.args.records.now.left c.gather.new.records.left c.args.records.now.at c.gather.new.records.at c.gather.new.items.served.items got

pub returns-in-Ok-false-advance-clause-end : goal.returns-in-Ok-false-advance-clause-end
returns-in-Ok-false-advance-clause-end g c =
    let got : AreGathered (repeats.Exactly c.args.count) new_record c.args.records.now.left c.gather.new.records.left c.args.records.now.at c.gather.new.records.at c.gather.new.items.served.items false = rw c.in-Ok-false.field-0-test at c.in-Ok-false.ensures.ok.1 in
    omega (arith, new_size c.args.count c.args.records.now.left c.gather.new.records.left c.args.records.now.at c.gather.new.records.at c.gather.new.items.served.items got)

pub returns-in-Err-clause-err : goal.returns-in-Err-clause-err
returns-in-Err-clause-err g c =
    new_halts _ c.args.count c.args.records.now.left c.args.records.now.at c.in-Err.fault.at c.gather.new.records.at c.in-Err.fault.why c.in-Err.ensures.before c.in-Err.ensures.err

pub returns-in-Err-advance-clause-err : goal.returns-in-Err-advance-clause-err
returns-in-Err-advance-clause-err g c =
    let got : AreGathered (repeats.Exactly c.args.count) new_record c.args.records.now.left c.gather.new.records.left c.args.records.now.at c.gather.new.records.at c.gather.new.items.served.items false = rw c.in-Ok-false.field-0-test at c.in-Ok-false.ensures.ok.1 in
    let fault = c.in-Err-advance.ensures.fault in
    let same = fault.0 in
    end_outside _ c.args.count c.args.records.now.left c.gather.new.records.left c.args.records.now.at c.in-Err-advance.fault.at c.gather.new.records.at c.gather.new.items.served.items c.in-Err-advance.fault.why got (omega (arith, same)) fault.1

pub returns-clause-err : goal.returns-clause-err
returns-clause-err g c =
    let got : AreGathered (repeats.Exactly c.args.count) new_record c.args.records.now.left c.gather.new.records.left c.args.records.now.at c.gather.new.records.at c.gather.new.items.served.items false = rw c.in-Ok-false.field-0-test at c.in-Ok-false.ensures.ok.1 in
    let taken : TakesRecord c.gather.new.records.left c.advance.new.self.left c.advance.new.self.fields true = search rules in
    let at : c.fault.result.at ≡ c.gather.new.records.at + 1 = omega arith in
    rw c.fault.ensures.why
    (past_halts _ c.args.count c.args.records.now.left c.gather.new.records.left c.advance.new.self.left c.args.records.now.at c.fault.result.at c.gather.new.records.at c.gather.new.items.served.items c.advance.new.self.fields _ got taken at
    (rw c.row.ensures at c.past_fault-why.ensures))
