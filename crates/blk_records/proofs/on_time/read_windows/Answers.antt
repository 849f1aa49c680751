use Rattle.std.proofs.Common.{[], false, arith}
use Rattle.blk_records.specs.Reads.{AreGathered}
use Rattle.blk_records.specs.OnTime.{window}
use Rattle.blk_records.proofs.Each.{size_is, fit_all, repeated_halts}
use Rattle.blk_records.proofs.OnTimeLaws.{window_one}
use Rattle.text_grammar.specs.declared.Repeats.TheVariants as repeats
use Rattle.blk_records.proofs.on_time.read_windows.Goals as goal

pub returns-in-Ok-false-clause-ok : goal.returns-in-Ok-false-clause-ok
returns-in-Ok-false-clause-ok g c =
    let got : AreGathered (repeats.Exactly c.args.count) (λ _. window) c.args.records.now.left c.gather.new.records.left c.args.records.now.at c.gather.new.records.at c.gather.new.items.items false = rw c.in-Ok-false.field-0-test at c.in-Ok-false.ensures.ok.1 in
    got.0

pub returns-in-Ok-false-clause-fit : goal.returns-in-Ok-false-clause-fit
returns-in-Ok-false-clause-fit g c =
    let got : AreGathered (repeats.Exactly c.args.count) (λ _. window) c.args.records.now.left c.gather.new.records.left c.args.records.now.at c.gather.new.records.at c.gather.new.items.items false = rw c.in-Ok-false.field-0-test at c.in-Ok-false.ensures.ok.1 in
    (fit_all window [] c.gather.new.items.items got.1.0, got.1.1)

pub returns-in-Ok-false-clause-end : goal.returns-in-Ok-false-clause-end
returns-in-Ok-false-clause-end g c =
    let got : AreGathered (repeats.Exactly c.args.count) (λ _. window) c.args.records.now.left c.gather.new.records.left c.args.records.now.at c.gather.new.records.at c.gather.new.items.items false = rw c.in-Ok-false.field-0-test at c.in-Ok-false.ensures.ok.1 in
    let at = got.3 in
    omega (arith, at, size_is window window_one c.gather.new.items.items)

pub returns-in-Err-clause-err : goal.returns-in-Err-clause-err
returns-in-Err-clause-err g c =
    repeated_halts _ window window_one (repeats.Exactly c.args.count) c.args.records.now.left c.args.records.now.at c.in-Err.fault.at c.gather.new.records.at c.in-Err.fault.why c.in-Err.ensures.before c.in-Err.ensures.err
