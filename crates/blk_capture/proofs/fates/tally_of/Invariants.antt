use Rattle.std.proofs.Common.{◌≡◌, ◌≤◌, take}
use Rattle.blk_capture.specs.Fates.{tally_of, AddsUp}
use Rattle.blk_capture.proofs.fates.tally_of.Given as goal

abbrev pub invariant-loop-place : goal.invariant-loop-place
invariant-loop-place l = record {
  value : l.counts ≡ tally_of l.action l.records (take l.place l.fates);
  sum : AddsUp l.counts;
  few : l.counts.records ≤ l.place;
}
