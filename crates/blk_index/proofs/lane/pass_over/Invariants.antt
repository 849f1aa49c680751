use Rattle.std.proofs.Common.{◌≡◌, ◌<◌, ◌≤◌, ◌-◌, length}
use Rattle.std.specs.VecDeque.{deque_capacity}
use Rattle.blk_index.specs.Inside.Lanes.{run_of}
use Rattle.blk_index.proofs.lane.pass_over.Given as goal

-- it ends at the id or before it, has room for it, and has the requests that it had
abbrev pub invariant-loop-run : goal.invariant-loop-run
invariant-loop-run g l = record {
  short : length l.run.items ≤ l.initial.index;
  room : l.initial.index < deque_capacity l.run;
  same : run_of l.initial.from l.run.items ≡ run_of l.initial.from l.initial.run.items;
}

abbrev pub decreases-loop-run : goal.decreases-loop-run
decreases-loop-run g l = l.initial.index - length l.run.items
