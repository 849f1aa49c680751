use Rattle.blk_tags.proofs.Plain.{bit_of_word}
use Rattle.blk_tags.proofs.laws.each_bit_is_a_tags.Goals as goal

pub returns : goal.returns
returns c words w k a = bit_of_word words w k a
