use Rattle.blk_explain.proofs.explaining.explain.Goals as goal

pub returns : goal.returns
returns c = record {
  found = c.in_ok-finding.ensures;
  line_is = (rw c.record.ensures at c.line_at-line.ensures);
  known = c.in_ok-detail.ensures;
}
