use Rattle.std.proofs.Common.{◌≡◌, Some, map, take, length}
use Rattle.blk_schedulers.specs.Given.{all_compared}
use Rattle.blk_schedulers.specs.Row.{sched_row_of}
use Rattle.blk_schedulers.specs.declared.rows.TheConstants.{SCHED_COUNT}
use Rattle.blk_schedulers.proofs.sched.ComparedScheds.given.Given as goal

abbrev pub invariant-loop-i : goal.invariant-loop-i
invariant-loop-i g l = record {
  whole : length l.scheds ≡ SCHED_COUNT;
  given : all_compared (g.G.Given.given l.options) (map sched_row_of (take l.i l.rows)) ≡ Some (take l.i l.scheds);
}
