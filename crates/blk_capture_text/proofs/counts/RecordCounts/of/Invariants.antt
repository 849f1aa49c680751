use Rattle.std.proofs.Common.{◌≡◌, ◌≤◌, drop}
use Rattle.blk_capture_text.specs.Counts.{counted_from, records_counted}
use Rattle.blk_capture_text.proofs.counts.RecordCounts.of.Given as goal

-- with those that are left they are all
abbrev pub invariant-loop-record : goal.invariant-loop-record
invariant-loop-record l = record {
  all : counted_from l.counts (drop l.record-index l.records) ≡ records_counted l.records;
  each : l.counts.records ≡ l.record-index;
  still : l.counts.still ≤ l.counts.records;
}
