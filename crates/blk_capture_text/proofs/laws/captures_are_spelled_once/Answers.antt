use Rattle.blk_capture_text.proofs.CaptureLaws.{spelled_once}
use Rattle.blk_capture_text.proofs.laws.captures_are_spelled_once.Goals as goal

pub returns : goal.returns
returns c = spelled_once
