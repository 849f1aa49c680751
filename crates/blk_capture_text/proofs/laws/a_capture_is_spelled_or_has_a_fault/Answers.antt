use Rattle.blk_capture_text.proofs.CaptureLaws.{spelled_or_wrong}
use Rattle.blk_capture_text.proofs.laws.a_capture_is_spelled_or_has_a_fault.Goals as goal

pub returns : goal.returns
returns c = spelled_or_wrong
