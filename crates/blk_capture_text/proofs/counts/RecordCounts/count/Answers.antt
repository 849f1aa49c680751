use Rattle.blk_capture_text.proofs.Doubting.{records_known}
use Rattle.blk_capture_text.proofs.counts.RecordCounts.count.Goals as goal

pub returns : goal.returns
returns c = λ rs e. records_known c.args.self.now rs e
