use Rattle.std.proofs.Common.{inr}
use Rattle.csv.specs.Records.{fields_of}
use Rattle.blk_records.proofs.ScheduleLaws.{past_line, past_new, past_old}
use Rattle.blk_records.proofs.schedule.past_fault.Goals as goal

pub returns-in-Err : goal.returns-in-Err
returns-in-Err c = inr (past_line c.args.known.now.served.items (fields_of c.args.row.now) c.in-Err.why c.in-Err.ensures.err)

pub returns-in-Ok-add : goal.returns-in-Ok-add
returns-in-Ok-add c = inr (past_new c.args.known.now.served.items (fields_of c.args.row.now) c.in-Ok.served c.in-Ok.ensures.ok c.in-Ok-add.ensures.ok.2)

pub returns-in-Err-add : goal.returns-in-Err-add
returns-in-Err-add c = past_old c.args.known.now.served.items (fields_of c.args.row.now) c.in-Ok.served c.in-Err-add.why c.in-Ok.ensures.ok c.in-Err-add.ensures.err
