use Rattle.blk_blame.proofs.blamed.findings_of.Goals as goal

pub returns : goal.returns
returns c = record {
  account = c.in_ok-account.ensures;
  totals = c.in_ok-totals.ensures;
  stages = c.in_ok-stages.ensures;
  groups = c.in_ok-groups.ensures;
  stalls = rw (c.in_ok-stalls.ensures.items, c.as_slice.ensures.value) at c.in_ok-sort_stalls.ensures;
  windows = rw (c.in_ok-windows.ensures.items, c.as_slice-2.ensures.value) at c.in_ok-sort_windows.ensures;
}
