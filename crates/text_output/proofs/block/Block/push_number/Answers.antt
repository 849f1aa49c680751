use Rattle.text_output.proofs.Drafts.{added}
use Rattle.text_output.proofs.block.Block.push_number.Goals as goal

pub returns : goal.returns
returns c = let start = c.in_ok-start.ensures in added _ _ _ _ _ _ _ start.at.0 start.text c.put_number-self.ensures.written
