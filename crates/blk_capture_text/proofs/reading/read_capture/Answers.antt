use Rattle.std.proofs.Common.{arith}
use Rattle.blk_capture_text.specs.Captures.{capture_form}
use Rattle.blk_capture_text.proofs.CaptureLaws.{capture_read, title_told, title_halts, body_halts}
use Rattle.blk_records.proofs.Reading.{halts_err, halts_reached}
use Rattle.blk_capture_text.proofs.reading.read_capture.Goals as goal

pub returns-in-Ok-read_body-clause-ok : goal.returns-in-Ok-read_body-clause-ok
returns-in-Ok-read_body-clause-ok g c =
    let got = c.in-Ok-read_body.ensures.ok in
    capture_read c.args.records.now.left c.read_title.new.records.left c.in-Ok.field-0.0 got.0 c.in-Ok-read_body.body.items (title_told _ _ c.in-Ok.field-0.0 c.in-Ok.field-0.1 c.in-Ok.ensures.ok).0 (title_told _ _ c.in-Ok.field-0.0 c.in-Ok.field-0.1 c.in-Ok.ensures.ok).1.0 got.1 got.2

pub returns-in-Err-clause-err : goal.returns-in-Err-clause-err
returns-in-Err-clause-err g c = halts_err _ capture_form _ _ _ (title_halts _ _ _ _ (omega (arith, c.requires, c.read_title.ensures.at, c.in-Err.ensures.last)) c.in-Err.ensures.err)

pub returns-in-Err-clause-reached : goal.returns-in-Err-clause-reached
returns-in-Err-clause-reached g c = halts_reached _ capture_form _ _ _ (title_halts _ _ _ _ (omega (arith, c.requires, c.read_title.ensures.at, c.in-Err.ensures.last)) c.in-Err.ensures.err)

pub returns-in-Err-read_body-clause-err : goal.returns-in-Err-read_body-clause-err
returns-in-Err-read_body-clause-err g c = halts_err _ capture_form _ _ _ (body_halts _ _ _ (c.in-Ok.field-0.0, tt) _ _ _ (omega arith) (title_told _ _ c.in-Ok.field-0.0 c.in-Ok.field-0.1 c.in-Ok.ensures.ok).0 c.in-Err-read_body.ensures.err)

pub returns-in-Err-read_body-clause-reached : goal.returns-in-Err-read_body-clause-reached
returns-in-Err-read_body-clause-reached g c = halts_reached _ capture_form _ _ _ (body_halts _ _ _ (c.in-Ok.field-0.0, tt) _ _ _ (omega arith) (title_told _ _ c.in-Ok.field-0.0 c.in-Ok.field-0.1 c.in-Ok.ensures.ok).0 c.in-Err-read_body.ensures.err)
