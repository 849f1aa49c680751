use Rattle.blk_capture.proofs.Listed.{lists_inserted, all_ok}
use Rattle.blk_capture.proofs.index.RequestIndex.put.Goals as goal

pub returns-in-Inserted : goal.returns-in-Inserted
returns-in-Inserted g c =
    all_ok c.insert-in-Inserted.result _ _ _ _
    (lists_inserted c.args.place c.args.request.now c.args.self.now c.insert-in-Inserted.new.self c.in-Inserted.is)
    c.insert-in-Inserted.ensures.wholes c.insert-in-Inserted.ensures.firsts c.insert-in-Inserted.ensures.ends
