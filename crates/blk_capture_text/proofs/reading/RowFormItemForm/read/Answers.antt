use Rattle.blk_capture_text.proofs.CaptureLaws.{row_gathers, row_fails}
use Rattle.blk_capture_text.proofs.reading.RowFormItemForm.read.Goals as goal

pub returns-in-Ok-clause-ok : goal.returns-in-Ok-clause-ok
returns-in-Ok-clause-ok g c =
    λ known. row_gathers c.args.items.now c.take_row.new.read known c.args.records.now.left c.args.records.now.fields c.args.records.now.at
    (rw c.row.ensures at c.in-Ok.ensures.after) (rw c.row.ensures at c.in-Ok.ensures.records) (rw c.row.ensures at c.in-Ok.ensures.last)

pub returns-in-Err-clause-err : goal.returns-in-Err-clause-err
returns-in-Err-clause-err g c =
    λ known. rw c.fault.ensures.why (row_fails _ c.args.items.now known c.args.records.now.left c.args.records.now.fields c.args.records.now.at c.fault.result.at c.in-Err.why c.fault.ensures.at (rw c.row.ensures at c.in-Err.ensures.err))
