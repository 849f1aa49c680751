use Rattle.answer.proofs.SameLemmas.{tells_same}
use Rattle.answer.proofs.as_json.law_of_answers.Goals as goal

pub returns : goal.returns
returns c = tells_same
