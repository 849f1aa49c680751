use Rattle.std.proofs.Common.{◌≡◌, take}
use Rattle.blk_trace.specs.Events.{round_of}
use Rattle.blk_trace.specs.Depths.{capacity_of}
use Rattle.blk_trace.proofs.trace.depths.steps_of.Given as goal

-- the steps and the round of the events so far
abbrev pub invariant-loop-event : goal.invariant-loop-event
invariant-loop-event g l = record {
  steps_are : l.steps.items ≡ capacity_of l.fn.setup (take l.event-index l.events);
  round_is : l.round ≡ round_of (take l.event-index l.events);
}
