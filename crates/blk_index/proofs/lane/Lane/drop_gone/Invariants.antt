use Rattle.std.proofs.Common.{◌≡◌}
use Rattle.std.specs.Prelude.{length}
use Rattle.blk_index.specs.Inside.Lanes.{entries_of, IsRun}
use Rattle.blk_index.proofs.lane.Lane.drop_gone.Given as goal

-- no key was taken away
abbrev pub invariant-loop-next : goal.invariant-loop-next
invariant-loop-next g l = record {
  same : entries_of l.self ≡ entries_of l.initial.self;
  run : IsRun l.initial.self → IsRun l.self;
}

abbrev pub decreases-loop-next : goal.decreases-loop-next
decreases-loop-next g l = length l.self.run.items
