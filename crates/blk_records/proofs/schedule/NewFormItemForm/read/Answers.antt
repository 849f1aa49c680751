use Rattle.blk_records.proofs.ScheduleLaws.{line_fails, old_fails, new_gathers}
use Rattle.blk_records.proofs.schedule.NewFormItemForm.read.Goals as goal

pub returns-in-Err-clause-err : goal.returns-in-Err-clause-err
returns-in-Err-clause-err g c =
    λ k. rw c.fault.ensures.why (line_fails _ c.args.items.now.served.items c.args.records.now.left c.args.records.now.fields c.args.records.now.at c.fault.result.at c.in-Err.why c.fault.ensures.at (rw c.row.ensures at c.in-Err.ensures.err))

pub returns-in-Ok-add-clause-ok : goal.returns-in-Ok-add-clause-ok
returns-in-Ok-add-clause-ok g c =
    let good = c.in-Ok-add.ensures.ok in
    λ k. (good.0, new_gathers c.args.items.now.served.items _ c.args.records.now.left c.args.records.now.fields c.in-Ok.served c.args.records.now.at (rw c.row.ensures at c.in-Ok.ensures.ok) good.2 good.1)

pub returns-in-Err-add-clause-err : goal.returns-in-Err-add-clause-err
returns-in-Err-add-clause-err g c =
    λ k. rw c.fault-in-Err-add.ensures.why (old_fails _ c.args.items.now.served.items c.args.records.now.left c.args.records.now.fields c.in-Ok.served c.args.records.now.at c.fault-in-Err-add.result.at c.in-Err-add.why c.fault-in-Err-add.ensures.at (rw c.row.ensures at c.in-Ok.ensures.ok) c.in-Err-add.ensures.err)
