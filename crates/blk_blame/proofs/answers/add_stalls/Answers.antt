use Rattle.std.proofs.Common.{refl}
use Rattle.blk_blame.proofs.answers.add_stalls.Goals as goal

pub returns : goal.returns
returns c = rw (c.in_ok-add-2.ensures, c.in_ok-add.ensures, c.new-title.ensures, c.new.ensures.items, c.new-2.ensures, c.in_ok-columns.ensures, c.in_ok-rows.ensures) refl
