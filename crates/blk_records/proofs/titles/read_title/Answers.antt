use Rattle.std.proofs.Common.{rules, true, subst}
use Rattle.blk_records.specs.Sources.{TakesRecord}
use Rattle.blk_records.specs.Titles.{TitleLacks}
use Rattle.blk_records.proofs.TitleLaws.{line_stops}
use Rattle.blk_records.proofs.titles.read_title.Goals as goal

pub returns-in-Err-clause-err : goal.returns-in-Err-clause-err
returns-in-Err-clause-err g c =
    let taken : TakesRecord c.args.records.now.left c.advance.new.self.left c.advance.new.self.fields true = search rules in
    let lacks : TitleLacks c.args.title.now c.advance.new.self.fields c.in-Err.why = subst (λ row. TitleLacks c.args.title.now row c.in-Err.why) c.row.ensures c.in-Err.ensures.err in
    rw (← c.fault-in-Err.ensures.why) at (line_stops c.args.title.now c.advance.new.self.failed c.args.records.now.left c.advance.new.self.left c.advance.new.self.fields c.in-Err.why taken lacks)
