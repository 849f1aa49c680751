use Rattle.blk_earliest.proofs.Chosen.{choice_first, choice_on_time, choice_none}
use Rattle.blk_earliest.proofs.law_of_choices.Goals as goal

pub returns : goal.returns
returns c = record { first = choice_first; first_on_time = choice_on_time; none = choice_none }
