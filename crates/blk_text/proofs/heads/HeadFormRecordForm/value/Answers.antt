use Rattle.std.proofs.Common.{refl}
use Rattle.std.proofs.lemmas.Result.{err_from_is_err_and}
use Rattle.csv.specs.Records.{fields_of}
use Rattle.blk_trace.specs.declared.event.Event.TheVariants as head
use Rattle.blk_text.proofs.HeadLaws.{head_line, head_lacks}
use Rattle.blk_text.proofs.heads.HeadFormRecordForm.value.Goals as goal

pub returns-in_err-read_fields-clause-err : goal.returns-in_err-read_fields-clause-err
returns-in_err-read_fields-clause-err c =
    let p = err_from_is_err_and c.from_residual.result c.from_residual.ensures.1 in
    rw (p.1, p.2) (head_lacks c.args.self.now.version head.Tick (fields_of c.args.row.now) c.field-word.result.now c.in_err-read_fields.field-0.0 c.field-word.ensures c.if-is.ensures.0 c.in_err-read_fields.ensures.err)

pub returns-in_err-numbers-clause-err : goal.returns-in_err-numbers-clause-err
returns-in_err-numbers-clause-err c =
    let p = err_from_is_err_and c.from_residual-in_err-numbers.result c.from_residual-in_err-numbers.ensures.1 in
    rw (p.1, p.2) (head_lacks c.args.self.now.version (head.Release 0 0) (fields_of c.args.row.now) c.field-word.result.now c.in_err-numbers.field-0.0 c.field-word.ensures c.if-is-2.ensures.0 c.in_err-numbers.ensures.err)

pub returns-then-is-2-clause-ok : goal.returns-then-is-2-clause-ok
returns-then-is-2-clause-ok c = head_line c.args.self.now.version _ (fields_of c.args.row.now) c.field-word.result.now c.in_ok-numbers.numbers c.field-word.ensures c.if-is-2.ensures.0 c.in_ok-numbers.ensures.ok (refl, (refl, (tt, (tt, (tt, tt)))))

pub returns-in_err-numbers-2-clause-err : goal.returns-in_err-numbers-2-clause-err
returns-in_err-numbers-2-clause-err c =
    let p = err_from_is_err_and c.from_residual-in_err-numbers-2.result c.from_residual-in_err-numbers-2.ensures.1 in
    rw (p.1, p.2) (head_lacks c.args.self.now.version (head.Join 0 0) (fields_of c.args.row.now) c.field-word.result.now c.in_err-numbers-2.field-0.0 c.field-word.ensures c.if-is-3.ensures.0 c.in_err-numbers-2.ensures.err)

pub returns-then-is-3-clause-ok : goal.returns-then-is-3-clause-ok
returns-then-is-3-clause-ok c = head_line c.args.self.now.version _ (fields_of c.args.row.now) c.field-word.result.now c.in_ok-numbers-2.numbers c.field-word.ensures c.if-is-3.ensures.0 c.in_ok-numbers-2.ensures.ok (refl, (refl, (tt, (tt, (tt, tt)))))

pub returns-in_err-numbers-3-clause-err : goal.returns-in_err-numbers-3-clause-err
returns-in_err-numbers-3-clause-err c =
    let p = err_from_is_err_and c.from_residual-in_err-numbers-3.result c.from_residual-in_err-numbers-3.ensures.1 in
    rw (p.1, p.2) (head_lacks c.args.self.now.version (head.Issue 0 0) (fields_of c.args.row.now) c.field-word.result.now c.in_err-numbers-3.field-0.0 c.field-word.ensures c.if-is-4.ensures.0 c.in_err-numbers-3.ensures.err)

pub returns-then-is-4-clause-ok : goal.returns-then-is-4-clause-ok
returns-then-is-4-clause-ok c = head_line c.args.self.now.version _ (fields_of c.args.row.now) c.field-word.result.now c.in_ok-numbers-3.numbers c.field-word.ensures c.if-is-4.ensures.0 c.in_ok-numbers-3.ensures.ok (refl, (refl, (tt, (tt, (tt, tt)))))

pub returns-in_err-numbers-4-clause-err : goal.returns-in_err-numbers-4-clause-err
returns-in_err-numbers-4-clause-err c =
    let p = err_from_is_err_and c.from_residual-in_err-numbers-4.result c.from_residual-in_err-numbers-4.ensures.1 in
    rw (p.1, p.2) (head_lacks c.args.self.now.version (head.Done 0) (fields_of c.args.row.now) c.field-word.result.now c.in_err-numbers-4.field-0.0 c.field-word.ensures c.if-is-5.ensures.0 c.in_err-numbers-4.ensures.err)

pub returns-then-is-5-clause-ok : goal.returns-then-is-5-clause-ok
returns-then-is-5-clause-ok c = head_line c.args.self.now.version _ (fields_of c.args.row.now) c.field-word.result.now c.in_ok-numbers-4.numbers c.field-word.ensures c.if-is-5.ensures.0 c.in_ok-numbers-4.ensures.ok (refl, (tt, (tt, (tt, (tt, tt)))))

pub returns-in_err-numbers-5-clause-err : goal.returns-in_err-numbers-5-clause-err
returns-in_err-numbers-5-clause-err c =
    let p = err_from_is_err_and c.from_residual-in_err-numbers-5.result c.from_residual-in_err-numbers-5.ensures.1 in
    rw (p.1, p.2) (head_lacks c.args.self.now.version (head.Back 0) (fields_of c.args.row.now) c.field-word.result.now c.in_err-numbers-5.field-0.0 c.field-word.ensures c.if-is-6.ensures.0 c.in_err-numbers-5.ensures.err)

pub returns-then-is-6-clause-ok : goal.returns-then-is-6-clause-ok
returns-then-is-6-clause-ok c = head_line c.args.self.now.version _ (fields_of c.args.row.now) c.field-word.result.now c.in_ok-numbers-5.numbers c.field-word.ensures c.if-is-6.ensures.0 c.in_ok-numbers-5.ensures.ok (refl, (tt, (tt, (tt, (tt, tt)))))

pub returns-in_err-numbers-6-clause-err : goal.returns-in_err-numbers-6-clause-err
returns-in_err-numbers-6-clause-err c =
    let p = err_from_is_err_and c.from_residual-in_err-numbers-6.result c.from_residual-in_err-numbers-6.ensures.1 in
    rw (p.1, p.2) (head_lacks c.args.self.now.version (head.Depth 0) (fields_of c.args.row.now) c.field-word.result.now c.in_err-numbers-6.field-0.0 c.field-word.ensures c.if-is-7.ensures.0 c.in_err-numbers-6.ensures.err)

pub returns-then-is-7-clause-ok : goal.returns-then-is-7-clause-ok
returns-then-is-7-clause-ok c = head_line c.args.self.now.version _ (fields_of c.args.row.now) c.field-word.result.now c.in_ok-numbers-6.numbers c.field-word.ensures c.if-is-7.ensures.0 c.in_ok-numbers-6.ensures.ok (refl, (tt, (tt, (tt, (tt, tt)))))
