use Rattle.std.proofs.Common.{◌≡◌, ◌∙◌, [], refl, sym, codes, arith, get_or}
use Rattle.csv.specs.Records.{fields_of}
use Rattle.blk_records.proofs.TableLaws.{begins}
use Rattle.blk_text.proofs.ScriptLaws.{step_bio, step_no_bio}
use Rattle.blk_text.proofs.script.StepFormRecordForm.value.Goals as goal

pub returns-in-Ok-clause-ok : goal.returns-in-Ok-clause-ok
returns-in-Ok-clause-ok c = step_bio c.args.self.now.version c.args.self.now.hw c.args.self.now.submitters c.in-Ok.bio (fields_of c.args.row.now) c.in-Ok.ensures.ok

pub returns-in-Err-clause-err : goal.returns-in-Err-clause-err
returns-in-Err-clause-err c =
    let first : get_or (fields_of c.args.row.now) 0 [] ≡ codes "bio" = sym c.field.ensures ∙ (c.if-is.ensures.0 refl).1 in
    step_no_bio c.args.self.now.version c.args.self.now.hw c.args.self.now.submitters (fields_of c.args.row.now) c.in-Err.why (begins (fields_of c.args.row.now) (codes "bio") (omega arith) first) c.in-Err.ensures.err
