use Rattle.std.proofs.Common.{◌≡◌, ◌≤◌, take, length}
use Rattle.blk_trace.specs.Events.{round_of}
use Rattle.blk_picture.specs.Columns.{entered_in}
use Rattle.blk_picture.proofs.columns.entered.Given as goal

abbrev pub invariant-loop-event : goal.invariant-loop-event
invariant-loop-event l = record {
  round : l.round ≡ round_of (take l.event-index l.events);
  early : l.round ≤ l.event-index;
  few : length l.rounds.items ≤ l.event-index;
  rounds : l.rounds.items ≡ entered_in l.dir (take l.event-index l.events);
}
