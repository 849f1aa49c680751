use Rattle.std.proofs.Common.{refl}
use Rattle.csv.specs.Records.{fields_of}
use Rattle.blk_records.specs.Certificate.{served_cells, IsServed}
use Rattle.blk_records.specs.declared.fault.TextReason.TheVariants as why
use Rattle.blk_records.proofs.ClaimLaws.{served_fits}
use Rattle.blk_records.proofs.TableLaws.{table_line}
use Rattle.blk_records.proofs.certificate.ServedFormRecordForm.value.Goals as goal

pub returns-in-Ok-clause-ok : goal.returns-in-Ok-clause-ok
returns-in-Ok-clause-ok c =
    table_line why.Count served_cells IsServed _ (fields_of c.args.row.now) c.in-Ok.numbers c.in-Ok.ensures.ok (refl, (refl, (refl, (refl, tt)))) (λ f. served_fits _ f)

pub returns-in-Err-clause-err : goal.returns-in-Err-clause-err
returns-in-Err-clause-err c = λ rest. (refl, c.in-Err.ensures.err)
