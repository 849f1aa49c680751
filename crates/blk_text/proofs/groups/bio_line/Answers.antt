use Rattle.std.proofs.Common.{◌≡◌, ◌∙◌, [], refl, sym, ap, codes, arith, get_or}
use Rattle.csv.specs.Records.{fields_of}
use Rattle.blk_records.specs.Words.{StartsWith}
use Rattle.blk_records.proofs.TableLaws.{begins}
use Rattle.blk_text.proofs.GroupLaws.{event_too_soon, no_event_there, group_ok, group_err}
use Rattle.blk_text.proofs.groups.bio_line.Goals as goal

pub returns-in-Ok-clause-err : goal.returns-in-Ok-clause-err
returns-in-Ok-clause-err c =
    let none : ¬ StartsWith (codes "bio") (fields_of c.args.row.now) = λ s. cc (c.if-is.ensures.1 (tt, c.field.ensures ∙ ap (λ cells. get_or cells 0 []) s.1), c.if-is.false) in
    event_too_soon c.args.form.now.version c.in-Ok.field-0 (fields_of c.args.row.now) none c.in-Ok.ensures.ok

pub returns-in-Err-clause-err : goal.returns-in-Err-clause-err
returns-in-Err-clause-err c =
    let none : ¬ StartsWith (codes "bio") (fields_of c.args.row.now) = λ s. cc (c.if-is.ensures.1 (tt, c.field.ensures ∙ ap (λ cells. get_or cells 0 []) s.1), c.if-is.false) in
    no_event_there c.args.form.now.version (fields_of c.args.row.now) c.in-Err.why none c.in-Err.ensures.err

pub returns-then-is-clause-ok : goal.returns-then-is-clause-ok
returns-then-is-clause-ok c = group_ok c.args.form.now.version (fields_of c.args.row.now) c.read_bio.result c.read_bio.ensures.ok

pub returns-then-is-clause-err : goal.returns-then-is-clause-err
returns-then-is-clause-err c =
    let first : get_or (fields_of c.args.row.now) 0 [] ≡ codes "bio" = sym c.field.ensures ∙ (c.if-is.ensures.0 refl).1 in
    group_err c.args.form.now.version (fields_of c.args.row.now) c.read_bio.result (begins (fields_of c.args.row.now) (codes "bio") (omega arith) first) c.read_bio.ensures.err
