use Rattle.std.proofs.Common.{◌≡◌, ◌≤◌, ◌*◌, length, take}
use Rattle.std.specs.List.{flat_map}
use Rattle.blk_bio.specs.declared.limits.TheConstants.{MAX_SEGMENTS}
use Rattle.blk_trace.specs.Events.{request_of}
use Rattle.blk_trace.proofs.Accounting.{waiting}
use Rattle.blk_trace.proofs.trace.waiting.count_waiting.Given as goal

-- the bios of the events so far under the ids that wait in the end
abbrev pub invariant-loop-event : goal.invariant-loop-event
invariant-loop-event g l = record {
  number : l.bios ≡ length (flat_map (request_of (take l.event-index l.events)) (waiting l.events));
  few : l.bios ≤ l.event-index * MAX_SEGMENTS;
}
