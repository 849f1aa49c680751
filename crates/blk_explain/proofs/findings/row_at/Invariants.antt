use Rattle.std.proofs.Common.{◌≡◌, Some, drop}
use Rattle.blk_explain.specs.Findings.{rows_of}
use Rattle.blk_explain.proofs.findings.row_at.Given as goal

abbrev pub invariant-loop : goal.invariant-loop
invariant-loop l = record {
  left : l.records.left ≡ Some (drop l.counter (rows_of l.bytes));
  at : l.records.at ≡ l.counter;
}
