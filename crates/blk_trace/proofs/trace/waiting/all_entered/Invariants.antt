use Rattle.std.proofs.Common.{◌≡◌, take}
use Rattle.blk_trace.specs.Events.{entered}
use Rattle.blk_trace.proofs.trace.waiting.all_entered.Given as goal

abbrev pub invariant-loop-event : goal.invariant-loop-event
invariant-loop-event g l = l.bios.items ≡ entered (take l.event-index l.events)
