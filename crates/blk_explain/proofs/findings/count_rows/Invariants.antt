use Rattle.std.proofs.Common.{◌≡◌, ◌≤◌, Some, drop, length}
use Rattle.blk_explain.specs.Findings.{rows_of}
use Rattle.blk_explain.proofs.findings.count_rows.Given as goal

abbrev pub invariant-loop-n : goal.invariant-loop-n
invariant-loop-n l = record {
  left : l.records.left ≡ Some (drop l.n (rows_of l.bytes));
  at : l.records.at ≡ l.n;
  few : l.n ≤ length (rows_of l.bytes);
}
