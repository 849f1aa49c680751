use Rattle.blk_blame.proofs.blamed.worst_by.Goals as goal

pub returns : goal.returns
returns c = record {
  in_turn = c.in_ok-late_groups.late_groups.items;
  are_late_group = c.in_ok-late_groups.ensures;
  late_groups = c.sort_late_groups.new.late_groups.items;
  late_groups_are = c.in_ok-sort_late_groups.ensures;
  groups_are = rw (c.first_of.ensures, c.as_slice.ensures.value) at c.in_ok-groups.ensures;
}
