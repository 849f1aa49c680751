use Rattle.blk_text.proofs.HeadLaws.{head_one, head_gone}
use Rattle.blk_text.proofs.heads.HeadFormRecordForm.gone.Goals as goal

pub returns-clause-one : goal.returns-clause-one
returns-clause-one c = head_one c.args.self.now.version

pub returns-clause-wrong : goal.returns-clause-wrong
returns-clause-wrong c = head_gone c.args.self.now.version
