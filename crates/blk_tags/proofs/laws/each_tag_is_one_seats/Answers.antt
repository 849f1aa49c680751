use Rattle.blk_tags.proofs.Plain.{few_total, bit_below, bit_held, held_bit, one_seat}
use Rattle.blk_tags.proofs.laws.each_tag_is_one_seats.Goals as goal

pub returns-clause-below : goal.returns-clause-below
returns-clause-below c depth s t h e = bit_below depth s h t e

pub returns-clause-held : goal.returns-clause-held
returns-clause-held c depth s t h e = bit_held depth s h t e

pub returns-clause-once : goal.returns-clause-once
returns-clause-once c depth s t h i j a b = one_seat t s.views i j (few_total depth s h t) a b

pub returns-clause-set : goal.returns-clause-set
returns-clause-set c depth s t h a = held_bit depth s h t a.0 a.1
