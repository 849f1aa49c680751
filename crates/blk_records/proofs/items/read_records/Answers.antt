use Rattle.std.proofs.Common.{rules, ◌≡◌, ◌+◌, [], true, false, arith, refl, inl, inr}
use Rattle.blk_records.specs.Sources.{TakesRecord}
use Rattle.blk_records.specs.Reads.{AreGathered, items_of, size_of}
use Rattle.blk_records.proofs.Reading.{many_fails, outside_fails, past_wrong, full_stopped}
use Rattle.blk_records.proofs.Each.{size_is, fit_all, each_halts}
use Rattle.blk_records.proofs.items.read_records.Goals as goal

pub returns-in-Ok-true-clause-fit : goal.returns-in-Ok-true-clause-fit
returns-in-Ok-true-clause-fit g c =
    let p = g.F.RecordForm.part c.args.form in
    let got : AreGathered c.args.repeats (λ _. p) c.args.records.now.left c.gather.new.records.left c.args.records.now.at c.gather.new.records.at c.gather.new.items.items true = rw c.in-Ok-true.field-0-test at c.in-Ok-true.ensures.ok.1 in
    (fit_all p [] c.gather.new.items.items got.1.0, got.1.1)

pub returns-in-Ok-true-clause-end : goal.returns-in-Ok-true-clause-end
returns-in-Ok-true-clause-end g c =
    let p = g.F.RecordForm.part c.args.form in
    let got : AreGathered c.args.repeats (λ _. p) c.args.records.now.left c.gather.new.records.left c.args.records.now.at c.gather.new.records.at c.gather.new.items.items true = rw c.in-Ok-true.field-0-test at c.in-Ok-true.ensures.ok.1 in
    let at = got.2 in
    omega (arith, at, size_is p c.gone.ensures.one c.gather.new.items.items)

pub returns-in-Err-clause-err : goal.returns-in-Err-clause-err
returns-in-Err-clause-err g c =
    let p = g.F.RecordForm.part c.args.form in
    each_halts _ p c.gone.ensures.one c.args.repeats c.args.records.now.left c.args.records.now.at c.in-Err.fault.at c.gather.new.records.at c.in-Err.fault.why c.in-Err.ensures.before
    (many_fails _ (λ _. p) (λ _. p) c.args.repeats c.args.records.now.left c.args.records.now.at c.in-Err.fault.at c.in-Err.fault.why c.in-Err.ensures.err)

pub returns-in-Ok-false-advance-clause-fit : goal.returns-in-Ok-false-advance-clause-fit
returns-in-Ok-false-advance-clause-fit g c =
    let p = g.F.RecordForm.part c.args.form in
    let got : AreGathered c.args.repeats (λ _. p) c.args.records.now.left c.gather.new.records.left c.args.records.now.at c.gather.new.records.at c.gather.new.items.items false = rw c.in-Ok-false.field-0-test at c.in-Ok-false.ensures.ok.1 in
    (fit_all p [] c.gather.new.items.items got.1.0, got.1.1)

pub returns-in-Ok-false-advance-clause-end : goal.returns-in-Ok-false-advance-clause-end
returns-in-Ok-false-advance-clause-end g c =
    let p = g.F.RecordForm.part c.args.form in
    let got : AreGathered c.args.repeats (λ _. p) c.args.records.now.left c.gather.new.records.left c.args.records.now.at c.gather.new.records.at c.gather.new.items.items false = rw c.in-Ok-false.field-0-test at c.in-Ok-false.ensures.ok.1 in
    let at = got.3 in
    omega (arith, at, size_is p c.gone.ensures.one c.gather.new.items.items)

pub returns-in-Err-advance-clause-err : goal.returns-in-Err-advance-clause-err
returns-in-Err-advance-clause-err g c =
    let p = g.F.RecordForm.part c.args.form in
    let got : AreGathered c.args.repeats (λ _. p) c.args.records.now.left c.gather.new.records.left c.args.records.now.at c.gather.new.records.at c.gather.new.items.items false = rw c.in-Ok-false.field-0-test at c.in-Ok-false.ensures.ok.1 in
    let at = got.3 in
    let fault = c.in-Err-advance.ensures.fault in
    let same = fault.0 in
    each_halts _ p c.gone.ensures.one c.args.repeats c.args.records.now.left c.args.records.now.at c.in-Err-advance.fault.at c.in-Err-advance.fault.at c.in-Err-advance.fault.why
    (full_stopped (λ _. p) c.args.repeats c.args.records.now.left c.gather.new.records.left c.gather.new.items.items c.args.records.now.at 0 c.in-Err-advance.fault.at got.0 got.2 (omega (arith, at, same)))
    (outside_fails _ (items_of c.args.repeats (λ _. p)) c.args.records.now.left c.args.records.now.at c.in-Err-advance.fault.at c.in-Err-advance.fault.why fault.1)

pub returns-in-Ok-clause-err : goal.returns-in-Ok-clause-err
returns-in-Ok-clause-err g c =
    let p = g.F.RecordForm.part c.args.form in
    let got : AreGathered c.args.repeats (λ _. p) c.args.records.now.left c.gather.new.records.left c.args.records.now.at c.gather.new.records.at c.gather.new.items.items false = rw c.in-Ok-false.field-0-test at c.in-Ok-false.ensures.ok.1 in
    let taken : TakesRecord c.gather.new.records.left c.advance.new.self.left c.advance.new.self.fields true = search rules in
    let before = got.3 in
    let at : c.fault.result.at ≡ c.args.records.now.at + size_of (λ _. p) c.gather.new.items.items + 1 = omega (arith, before) in
    let value = rw c.row.ensures at c.in-Ok.ensures.ok in
    rw (c.fault.ensures.why, c.beyond.ensures)
    (each_halts _ p c.gone.ensures.one c.args.repeats c.args.records.now.left c.args.records.now.at c.fault.result.at c.fault.result.at _
    (full_stopped (λ _. p) c.args.repeats c.args.records.now.left c.gather.new.records.left c.gather.new.items.items c.args.records.now.at 0 c.fault.result.at got.0 got.2 at)
    (past_wrong _ (λ _. p) (λ _. p) c.args.repeats c.args.records.now.left c.gather.new.records.left c.advance.new.self.left c.gather.new.items.items c.advance.new.self.fields c.args.records.now.at c.fault.result.at _ got.0 taken at
    (λ rest. ((λ z. (cc z)), inr (refl, refl, (c.in-Ok.field-0, rest, value rest))))))

pub returns-clause-err : goal.returns-clause-err
returns-clause-err g c =
    let p = g.F.RecordForm.part c.args.form in
    let got : AreGathered c.args.repeats (λ _. p) c.args.records.now.left c.gather.new.records.left c.args.records.now.at c.gather.new.records.at c.gather.new.items.items false = rw c.in-Ok-false.field-0-test at c.in-Ok-false.ensures.ok.1 in
    let taken : TakesRecord c.gather.new.records.left c.advance.new.self.left c.advance.new.self.fields true = search rules in
    let before = got.3 in
    let at : c.fault-in-Err-value.result.at ≡ c.args.records.now.at + size_of (λ _. p) c.gather.new.items.items + 1 = omega (arith, before) in
    let wrong = rw c.row.ensures at c.in-Err-value.ensures.err in
    rw c.fault-in-Err-value.ensures.why
    (each_halts _ p c.gone.ensures.one c.args.repeats c.args.records.now.left c.args.records.now.at c.fault-in-Err-value.result.at c.fault-in-Err-value.result.at _
    (full_stopped (λ _. p) c.args.repeats c.args.records.now.left c.gather.new.records.left c.gather.new.items.items c.args.records.now.at 0 c.fault-in-Err-value.result.at got.0 got.2 at)
    (past_wrong _ (λ _. p) (λ _. p) c.args.repeats c.args.records.now.left c.gather.new.records.left c.advance.new.self.left c.gather.new.items.items c.advance.new.self.fields c.args.records.now.at c.fault-in-Err-value.result.at _ got.0 taken at
    (λ rest. ((λ z. (cc z)), inl (wrong rest)))))
