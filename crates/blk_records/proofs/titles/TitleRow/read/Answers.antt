use Rattle.std.proofs.Common.{inr, subst}
use Rattle.csv.specs.Records.{fields_of}
use Rattle.blk_records.specs.Fields.{Lacks}
use Rattle.blk_records.proofs.titles.TitleRow.read.Goals as goal

pub returns-in-Err-clause-err : goal.returns-in-Err-clause-err
returns-in-Err-clause-err g c = inr (c.in-Some.version, c.in-Some.ensures.0, c.in-Some.ensures.1, subst (λ slots. Lacks slots (fields_of c.args.row.now) c.in-Err.why) c.slots_in.ensures c.in-Err.ensures.err)
