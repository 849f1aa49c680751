use Rattle.std.proofs.Common.{◌≡◌, ◌≤◌, ◌*◌, length, take}
use Rattle.blk_bio.specs.declared.limits.TheConstants.{MAX_SEGMENTS}
use Rattle.blk_trace.specs.Events.{entered}
use Rattle.blk_trace.proofs.trace.waiting.count_entered.Given as goal

-- the bios of the events so far, of which each has few
abbrev pub invariant-loop-event : goal.invariant-loop-event
invariant-loop-event g l = record {
  number : l.bios ≡ length (entered (take l.event-index l.events));
  few : l.bios ≤ l.event-index * MAX_SEGMENTS;
}
