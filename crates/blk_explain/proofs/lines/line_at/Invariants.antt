use Rattle.std.proofs.Common.{◌≡◌, ◌≤◌, ◌+◌, drop}
use Rattle.blk_explain.specs.Lines.{line_from, line_at}
use Rattle.blk_explain.specs.Inside.Ends.{line_state}
use Rattle.blk_explain.proofs.lines.line_at.Given as goal

abbrev pub invariant-loop-i : goal.invariant-loop-i
invariant-loop-i l = record {
  walk : line_from (line_state l.state) l.returned l.line l.left (drop l.i l.text) ≡ line_at l.bytes l.n;
  few : l.line ≤ l.i + 1;
}
