use Rattle.blk_records.proofs.ClaimLaws.{bound_one, bound_gone}
use Rattle.blk_records.proofs.certificate.BoundFormRecordForm.gone.Goals as goal

pub returns-clause-one : goal.returns-clause-one
returns-clause-one c = bound_one c.args.self.now.count

pub returns-clause-wrong : goal.returns-clause-wrong
returns-clause-wrong c = bound_gone c.args.self.now.count
