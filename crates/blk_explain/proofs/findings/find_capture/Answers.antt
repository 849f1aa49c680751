use Rattle.std.proofs.Common.{refl}
use Rattle.blk_capture_text.specs.Captures.{SpellsCapture}
use Rattle.blk_explain.specs.Findings.{rows_of}
use Rattle.blk_explain.proofs.Found.{known}
use Rattle.blk_explain.proofs.findings.find_capture.Goals as goal

pub returns-in-Ok : goal.returns-in-Ok
returns-in-Ok c = (refl, (c.in-Ok.field-0.items, known (λ rows. SpellsCapture rows c.in-Ok.field-0.items) _ (rows_of c.args.bytes.now) c.new.ensures.left c.in-Ok.ensures.ok))
