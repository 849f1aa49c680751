use Rattle.blk_capture_text.proofs.CaptureLaws.{spelled_no_fault}
use Rattle.blk_capture_text.proofs.laws.spelled_captures_have_no_fault.Goals as goal

pub returns : goal.returns
returns c = spelled_no_fault
