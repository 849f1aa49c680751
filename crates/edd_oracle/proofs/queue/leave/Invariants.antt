use Rattle.std.proofs.Common.{◌≡◌, ◌+◌, ◌-◌, length}
use Rattle.std.specs.BinaryHeap.{heap_items, IsHeap}
use Rattle.edd_commands.specs.Capacity.{depth_at}
use Rattle.edd_oracle.specs.Inside.Queue.{waiting_cmp}
use Rattle.edd_oracle.proofs.Partial.{IsPartial}
use Rattle.edd_oracle.proofs.Turn.{IsHeld}
use Rattle.edd_oracle.proofs.queue.leave.Given as goal

abbrev pub invariant-places : goal.invariant-places
invariant-places g l = record {
  so_far : IsPartial l.passes l.commands l.initial.rounds.items l.rounds.items l.capacity l.start l.round l.used;
  held : IsHeld l.passes l.commands l.rounds.items l.arrivals.items l.next l.round (heap_items l.waiting);
  ordered : IsHeap waiting_cmp (heap_items l.waiting);
  depth : l.depth ≡ depth_at l.capacity l.round;
}

abbrev pub decreases-places : goal.decreases-places
decreases-places g l = length (heap_items l.waiting) + (length l.arrivals.items - l.next)
