use Rattle.blk_capture.proofs.Listed.{unlists_inserted}
use Rattle.blk_capture.proofs.index.RequestIndex.take.Goals as goal

pub returns-in-Inserted : goal.returns-in-Inserted
returns-in-Inserted g c = unlists_inserted c.args.place c.args.request.now c.args.self.now c.remove-in-Inserted.new.self c.in-Inserted.is c.remove-in-Inserted.ensures.wholes c.remove-in-Inserted.ensures.firsts c.remove-in-Inserted.ensures.ends
