use Rattle.blk_capture_text.proofs.CaptureLaws.{one_fault}
use Rattle.blk_capture_text.proofs.laws.a_capture_has_one_fault.Goals as goal

pub returns : goal.returns
returns c = one_fault
