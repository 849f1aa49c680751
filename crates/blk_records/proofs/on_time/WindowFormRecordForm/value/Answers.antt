use Rattle.std.proofs.Common.{rules, refl, inl, codes}
use Rattle.csv.specs.Records.{fields_of}
use Rattle.edd_check.specs.Window.{WindowInRange}
use Rattle.blk_records.specs.Words.{StartsWith}
use Rattle.blk_records.specs.OnTime.{window_cells}
use Rattle.blk_records.specs.declared.fault.TextReason.TheVariants as why
use Rattle.blk_records.proofs.OnTimeLaws.{window_fits}
use Rattle.blk_records.proofs.TableLaws.{word_line}
use Rattle.blk_records.proofs.on_time.WindowFormRecordForm.value.Goals as goal

pub returns-in-Ok-clause-ok : goal.returns-in-Ok-clause-ok
returns-in-Ok-clause-ok c =
    let starts : StartsWith (codes "window") (fields_of c.args.row.now) = search rules in
    word_line why.Count (codes "window") window_cells WindowInRange _ (fields_of c.args.row.now) c.in-Ok.numbers starts c.in-Ok.ensures.ok (refl, (refl, (tt, tt))) (λ f. window_fits _ f)

pub returns-in-Err-clause-err : goal.returns-in-Err-clause-err
returns-in-Err-clause-err c =
    let starts : StartsWith (codes "window") (fields_of c.args.row.now) = search rules in
    λ rest. (refl, inl (starts, c.in-Err.ensures.err))
