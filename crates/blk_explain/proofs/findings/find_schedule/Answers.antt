use Rattle.std.proofs.Common.{refl}
use Rattle.blk_records.specs.Schedule.{SpellsSchedule, viewed}
use Rattle.blk_explain.specs.Findings.{rows_of}
use Rattle.blk_explain.proofs.Found.{known}
use Rattle.blk_explain.proofs.findings.find_schedule.Goals as goal

pub returns-in-Ok : goal.returns-in-Ok
returns-in-Ok c = (refl, (viewed c.in-Ok.field-0, known (λ rows. SpellsSchedule rows (viewed c.in-Ok.field-0)) _ (rows_of c.args.bytes.now) c.new.ensures.left c.in-Ok.ensures.ok))
