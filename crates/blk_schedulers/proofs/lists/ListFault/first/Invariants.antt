use Rattle.std.proofs.Common.{◌≡◌, map, drop}
use Rattle.blk_schedulers.specs.Lists.{unlisted_among}
use Rattle.blk_schedulers.specs.Row.{sched_row_of}
use Rattle.blk_schedulers.specs.Rows.{sched_table}
use Rattle.blk_schedulers.proofs.lists.ListFault.first.Given as goal

abbrev pub invariant-loop-i : goal.invariant-loop-i
invariant-loop-i g l = unlisted_among (g.G.Given.given l.options) (map sched_row_of (drop l.i l.rows)) ≡ unlisted_among (g.G.Given.given l.options) sched_table
