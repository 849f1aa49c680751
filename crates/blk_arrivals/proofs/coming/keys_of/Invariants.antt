use Rattle.std.proofs.Common.{◌≡◌, ◌≤◌, [], length, drop}
use Rattle.blk_bio.specs.declared.limits.TheConstants.{MAX_SOFT_QUEUES}
use Rattle.blk_arrivals.specs.Coming.{keys_after}
use Rattle.blk_arrivals.proofs.coming.keys_of.Given as goal

-- the keys so far, to which those of the records that are left come
abbrev pub invariant-loop-record : goal.invariant-loop-record
invariant-loop-record l = record {
  rest : keys_after l.told l.keys.items (drop l.record-index l.records) ≡ keys_after l.told [] l.records;
  few : length l.keys.items ≤ MAX_SOFT_QUEUES;
}
