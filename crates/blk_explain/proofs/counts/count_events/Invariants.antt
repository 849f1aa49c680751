use Rattle.std.proofs.Common.{◌≡◌, ◌≤◌, Some, count_by, drop, take}
use Rattle.blk_explain.specs.Counts.{is_no_bio}
use Rattle.blk_explain.specs.Findings.{rows_of}
use Rattle.blk_explain.proofs.counts.count_events.Given as goal

abbrev pub invariant-loop : goal.invariant-loop
invariant-loop l = record {
  left : l.records.left ≡ Some (drop l.counter (rows_of l.bytes));
  at : l.records.at ≡ l.counter;
  counted : l.others ≡ count_by is_no_bio (take l.counter (rows_of l.bytes));
  most : l.others ≤ l.counter;
}
