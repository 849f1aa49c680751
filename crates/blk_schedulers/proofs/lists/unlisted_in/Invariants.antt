use Rattle.std.proofs.Common.{◌≡◌, map, drop}
use Rattle.blk_schedulers.specs.Lists.{unlisted_in, unlisted_from}
use Rattle.blk_schedulers.specs.Row.{setting_row_of, sched_row_of}
use Rattle.blk_schedulers.proofs.lists.unlisted_in.Given as goal

abbrev pub invariant-loop-i : goal.invariant-loop-i
invariant-loop-i g l = unlisted_from (g.G.Given.given l.options) l.row.kind l.i (map setting_row_of (drop l.i l.settings)) ≡ unlisted_in (g.G.Given.given l.options) (sched_row_of l.row)
