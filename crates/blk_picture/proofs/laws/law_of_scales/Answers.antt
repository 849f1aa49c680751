use Rattle.blk_picture.proofs.Adding.{scales_show, own_shows, several_show}
use Rattle.blk_picture.proofs.laws.law_of_scales.Goals as goal

pub returns : goal.returns
returns c = record {
  rounds = λ events rounds l deep scale is. scales_show events rounds deep scale l is;
  own = own_shows;
  several = λ traces deep scale is k t h. several_show traces k deep scale t h is;
}
