use Rattle.blk_capture_text.proofs.CaptureLaws.{read_back_is}
use Rattle.blk_capture_text.proofs.laws.captures_read_back.Goals as goal

pub returns : goal.returns
returns c = read_back_is
