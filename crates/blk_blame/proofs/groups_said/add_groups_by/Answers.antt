use Rattle.std.proofs.Common.{refl}
use Rattle.blk_blame.proofs.groups_said.add_groups_by.Goals as goal

pub returns : goal.returns
returns c = rw (c.in_ok-add-2.ensures, c.in_ok-add.ensures, c.new-title.ensures, c.new.ensures.items, c.new-2.ensures, c.in_ok-columns.ensures, c.in_ok-rows.ensures, c.groups_title.ensures, c.groups_name.ensures) refl
