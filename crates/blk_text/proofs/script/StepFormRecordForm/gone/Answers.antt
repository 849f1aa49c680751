use Rattle.blk_text.proofs.ScriptLaws.{step_one, step_gone}
use Rattle.blk_text.proofs.script.StepFormRecordForm.gone.Goals as goal

pub returns-clause-one : goal.returns-clause-one
returns-clause-one c = step_one c.args.self.now.version c.args.self.now.hw c.args.self.now.submitters c.args.self.now.hw_in.1 c.args.self.now.submitters_in.1

pub returns-clause-wrong : goal.returns-clause-wrong
returns-clause-wrong c = step_gone c.args.self.now.version c.args.self.now.hw c.args.self.now.submitters
