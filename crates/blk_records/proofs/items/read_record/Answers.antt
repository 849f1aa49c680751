use Rattle.std.proofs.Common.{rules, [], true, arith}
use Rattle.blk_records.specs.Sources.{TakesRecord}
use Rattle.blk_records.proofs.Reading.{line_reads, record_halts, outside_halts}
use Rattle.blk_records.proofs.items.read_record.Goals as goal

pub returns-in-Ok-clause-ok : goal.returns-in-Ok-clause-ok
returns-in-Ok-clause-ok g c =
    let taken : TakesRecord c.args.records.now.left c.advance.new.self.left c.advance.new.self.fields true = search rules in
    line_reads (g.F.RecordForm.part c.args.form.now) c.args.records.now.left c.advance.new.self.left c.advance.new.self.fields c.in-Ok.value taken (rw c.row.ensures at c.in-Ok.ensures.ok)

pub returns-in-Ok-clause-fits : goal.returns-in-Ok-clause-fits
returns-in-Ok-clause-fits g c = (c.in-Ok.ensures.ok []).fits

pub returns-in-Err-clause-err : goal.returns-in-Err-clause-err
returns-in-Err-clause-err g c =
    outside_halts _ (g.F.RecordForm.part c.args.form.now) c.gone-gone.ensures.one.tells c.args.records.now.left c.args.records.now.at _ _ (omega (arith, c.advance.ensures.at, c.in-Err.ensures.fault.0)) c.in-Err.ensures.fault.1

pub returns-in-Err-value-clause-err : goal.returns-in-Err-value-clause-err
returns-in-Err-value-clause-err g c =
    let taken : TakesRecord c.args.records.now.left c.advance.new.self.left c.advance.new.self.fields true = search rules in
    rw c.fault-in-Err-value.ensures.why (record_halts _ (g.F.RecordForm.part c.args.form.now) c.gone-gone.ensures.one.tells c.args.records.now.left c.advance.new.self.left c.advance.new.self.fields c.args.records.now.at _ c.in-Err-value.why
    (omega (arith, c.advance.ensures.at, c.fault-in-Err-value.ensures.at)) taken (rw c.row.ensures at c.in-Err-value.ensures.err))
